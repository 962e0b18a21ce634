use Rattle.std.proofs.Common.{◌≡◌, ◌⊎◌, ℕ, ◌+◌, ◌<◌, length, take, get_or, sym, ap, subst, ◌∙◌, inl, inr, ◌++◌, map}
use Rattle.std.proofs.lemmas.List.{take_more, map_push}
use Rattle.std.specs.Prelude.{List, [], ◌∷◌, ◌&&◌}
use Rattle.std.specs.List.{list_any}
use Rattle.samr_box.specs.Corners.{Corners, holds}
use Rattle.samr_box.specs.Lists.{Member}
use Rattle.samr_box.proofs.Members.{Member-from_append}
use Rattle.samr_sign.specs.Fields.{Field, tagged}
use Rattle.samr_trials_stages.proofs.clusters.fields_on.Goals as goal

one_more_field : (boxes : List Corners) (i : ℕ) (b : Corners) (before after : List Field) (f : Field) → i < length boxes → b ≡ get_or boxes i b
    → map (λ (f : Field). f.bx) before ≡ take i boxes → f.bx ≡ b → after ≡ before ++ f ∷ [] → map (λ (f : Field). f.bx) after ≡ take (i + 1) boxes
one_more_field boxes i b before after f below is so_far same pushed =
    ap (map (λ (f : Field). f.bx)) pushed
    ∙ map_push (λ (f : Field). f.bx) before f
    ∙ ap (λ (l : List Corners). l ++ f.bx ∷ []) so_far
    ∙ ap (λ (v : Corners). take i boxes ++ v ∷ []) (same ∙ is)
    ∙ sym (take_more boxes i b below)

last_or_before : {X : Type 0} (before after : List X) (x y : X) → after ≡ before ++ x ∷ [] → Member y after → Member y before ⊎ (y ≡ x)
last_or_before {X = X} before after x y pushed m = elim (Member-from_append y before (x ∷ []) (subst (λ (l : List X). Member y l) pushed m)) [
  | inl there ↦ inl there
  | inr (inl here) ↦ inr here
  | inr (inr none) ↦ absurd none
]

pub loop-bx-preserved : goal.loop-bx-preserved
loop-bx-preserved c = record {
  same_boxes =
      one_more_field c.args.boxes.now c.loop-bx.bx-index c.bx-item.result c.loop-bx.fields.items c.push.new.self.items c.in_ok-field_on.field-0
      c.loop-bx-test.true c.bx-item.is c.loop-bx.invariant.same_boxes c.in_ok-field_on.ensures.bx c.in_ok-push.ensures.items;
  cells = λ f x m. elim (last_or_before c.loop-bx.fields.items c.push.new.self.items c.in_ok-field_on.field-0 f c.in_ok-push.ensures.items m) [
    | inl there ↦ c.loop-bx.invariant.cells f x there
    | inr here ↦
        ap (λ (v : Field). tagged v x) here ∙ c.in_ok-field_on.ensures.cells x
        ∙ ap (λ (v : Field). holds v.bx x && list_any (λ s. holds s x) c.args.spots.now) (sym here)
  ];
}

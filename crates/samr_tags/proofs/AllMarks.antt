-- One more field in a list of fields.
use Rattle.std.proofs.Common.{◌≡◌, ◌⊎◌, ℕ, ◌+◌, ◌<◌, length, take, get_or, sym, ap, subst, ◌∙◌, inl, inr, ◌++◌, map}
use Rattle.std.proofs.lemmas.List.{take_more, map_push}
use Rattle.std.specs.Prelude.{◌&&◌, List, [], ◌∷◌}
use Rattle.samr_box.specs.declared.vector.IVec.{IVec}
use Rattle.samr_box.specs.Corners.{Corners, holds}
use Rattle.samr_box.specs.Space.{Space}
use Rattle.samr_box.specs.Lists.{Member}
use Rattle.samr_box.proofs.Members.{Member-from_append}
use Rattle.samr_stage.specs.declared.stage.Held.{Held}
use Rattle.samr_sign.specs.Fields.{Field, tagged}
use Rattle.samr_tags.specs.declared.seen.Seen.{Seen}
use Rattle.samr_tags.specs.Marking.{marked_at, AreMarked}

pub one_more_field : (boxes : List Corners) (i : ℕ) (b : Corners) (before after : List Field) (f : Field) → i < length boxes → b ≡ get_or boxes i b
    → map (λ (f : Field). f.bx) before ≡ take i boxes → f.bx ≡ b → after ≡ before ++ f ∷ [] → map (λ (f : Field). f.bx) after ≡ take (i + 1) boxes
one_more_field boxes i b before after f below is so_far same pushed =
    ap (map (λ (f : Field). f.bx)) pushed
    ∙ map_push (λ (f : Field). f.bx) before f
    ∙ ap (λ (l : List Corners). l ++ f.bx ∷ []) so_far
    ∙ ap (λ (v : Corners). take i boxes ++ v ∷ []) (same ∙ is)
    ∙ sym (take_more boxes i b below)

pub last_or_before : {X : Type 0} (before after : List X) (x y : X) → after ≡ before ++ x ∷ [] → Member y after → Member y before ⊎ (y ≡ x)
last_or_before {X = X} before after x y pushed m = elim (Member-from_append y before (x ∷ []) (subst (λ (l : List X). Member y l) pushed m)) [
  | inl there ↦ inl there
  | inr (inl here) ↦ inr here
  | inr (inr none) ↦ absurd none
]

pub one_more_marked : (d : Space) (buffer : IVec) (rank : ℕ) (own : List Seen) (held : List (Held (List Seen))) (boxes : List Corners) (i : ℕ) (b : Corners)
    (before after : List Field) (f : Field) → i < length boxes → b ≡ get_or boxes i b → AreMarked d buffer rank own held (take i boxes) before
    → f.bx ≡ b → ((x : IVec) → tagged f x ≡ (holds b x && marked_at d buffer (record { owner = rank; bx = b }) own held x)) → after ≡ before ++ f ∷ []
    → AreMarked d buffer rank own held (take (i + 1) boxes) after
one_more_marked d buffer rank own held boxes i b before after f below is so_far same has pushed = record {
  same_boxes = one_more_field boxes i b before after f below is so_far.same_boxes same pushed;
  cells = λ g x m. elim (last_or_before before after f g pushed m) [
    | inl there ↦ so_far.cells g x there
    | inr here ↦
        ap (λ (v : Field). tagged v x) here ∙ has x
        ∙ ap (λ (c : Corners). holds c x && marked_at d buffer (record { owner = rank; bx = c }) own held x) (sym same ∙ ap (λ (v : Field). v.bx) (sym here))
  ];
}

use Rattle.std.proofs.Common.{◌≡◌, ◌∙◌, ap, refl, inl, inr, subst, sym}
use Rattle.std.proofs.lemmas.List.{take_all}
use Rattle.std.specs.Prelude.{Bool, true, false, ◌&&◌, List}
use Rattle.samr_box.specs.Corners.{Corners, holds}
use Rattle.samr_sign.specs.Fields.{Field, tagged, AreTags}
use Rattle.samr_tags.proofs.AllMarks.{one_more_field, last_or_before}
use Rattle.samr_trials_stages.proofs.covers.empty_fields.Goals as goal

none_there : (h : Bool) → false ≡ (h && false)
none_there h = by h
  where
    by : (h : Bool) → false ≡ (h && false)
    by true = refl
    by false = refl

pub loop-bx-preserved : goal.loop-bx-preserved
loop-bx-preserved c = record {
  same_boxes =
      one_more_field c.args.boxes.now c.loop-bx.bx-index c.bx-item.result c.loop-bx.fields.items c.push.new.self.items c.in_ok-new.field-0
      c.loop-bx-test.true c.bx-item.is c.loop-bx.invariant.same_boxes c.in_ok-new.ensures.bx c.in_ok-push.ensures.items;
  cells = λ f x m. elim (last_or_before c.loop-bx.fields.items c.push.new.self.items c.in_ok-new.field-0 f c.in_ok-push.ensures.items m) [
    | inl there ↦ c.loop-bx.invariant.cells f x there
    | inr here ↦ ap (λ (v : Field). tagged v x) here ∙ c.in_ok-new.ensures.none x ∙ none_there (holds f.bx x)
  ];
}

pub returns : goal.returns
returns c =
    subst (AreTags c.args.boxes.now (λ x. false)) (sym c.from_vec.ensures)
    (subst (λ (l : List Corners). AreTags l (λ x. false) c.loop-bx.fields.items) (take_all c.loop-bx.bx-index c.args.boxes.now c.loop-bx-test.false) c.loop-bx.invariant)

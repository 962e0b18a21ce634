use Rattle.std.proofs.Common.{◌≡◌, ℕ, ◌∙◌, ap, sym, subst, arith}
use Rattle.std.specs.Prelude.{false, List}
use Rattle.samr_box.specs.Corners.{Corners}
use Rattle.samr_sign.specs.Fields.{Field, AreTags}
use Rattle.samr_level.specs.declared.parts.Part.{Part}
use Rattle.samr_level.specs.Levels.{own_boxes}
use Rattle.samr_tags.proofs.BufferOnAllLaws.{each_more}
use Rattle.samr_trials_stages.proofs.covers.no_tags.Goals as goal

pub each-preserved : goal.each-preserved
each-preserved c =
    let before = c.each.invariant in
    let boxes : c.as_slice.result.now ≡ own_boxes c.each.rank c.args.level.now = c.as_slice.ensures ∙ ap (λ (p : Part). p.boxes) c.in_ok-part.ensures in (
      omega (arith, c.in_ok-push.ensures.len, before.0),
      each_more (λ rank (own : List Field). AreTags (own_boxes rank c.args.level.now) (λ x. false) own) c.each.all.items c.push.new.self.items c.each.rank c.in_ok-empty_fields.field-0
          before.0 before.1 (subst (λ (l : List Corners). AreTags l (λ x. false) c.in_ok-empty_fields.field-0) boxes c.in_ok-empty_fields.ensures) c.in_ok-push.ensures.items,
    )

use Rattle.std.proofs.Common.{◌≡◌, ◌∙◌, sym, subst, arith}
use Rattle.std.specs.Prelude.{Bool, List}
use Rattle.std.specs.List.{list_any}
use Rattle.samr_box.specs.declared.vector.IVec.{IVec}
use Rattle.samr_box.specs.Corners.{Corners, holds}
use Rattle.samr_sign.specs.Fields.{Field, AreTags}
use Rattle.samr_level.specs.Levels.{own_boxes}
use Rattle.samr_cluster.proofs.OnAllLaws.{each_more}
use Rattle.samr_trials_stages.proofs.clusters.all_fields.Goals as goal

pub each-preserved : goal.each-preserved
each-preserved c =
    let before = c.each.invariant in
    let tags : IVec → Bool = λ x. list_any (λ s. holds s x) c.args.spots.now in
    let boxes : c.as_slice.result.now ≡ own_boxes c.each.rank c.args.level.now = c.as_slice.ensures.value ∙ c.in_ok-boxes.ensures in (
      omega (arith, c.in_ok-push.ensures.len, before.0),
      each_more (λ rank (own : List Field). AreTags (own_boxes rank c.args.level.now) tags own) c.each.all.items c.push.new.self.items c.each.rank c.from_vec.result
          before.0 before.1 (subst (λ (f : List Field). AreTags (own_boxes c.each.rank c.args.level.now) tags f) (sym c.from_vec.ensures) (subst (λ (l : List Corners). AreTags l tags c.in_ok-fields.fields.items) boxes c.in_ok-fields.ensures)) c.in_ok-push.ensures.items,
    )

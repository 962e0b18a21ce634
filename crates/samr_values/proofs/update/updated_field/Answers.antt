-- The steps of `updated_field`.
use Rattle.std.proofs.Common.{◌∙◌}
use Rattle.samr_data.specs.Grids.{Grid}
use Rattle.samr_values.specs.Updating.{updated_at}
use Rattle.samr_values.proofs.Faces.{made_more, item_in}
use Rattle.samr_values.proofs.update.updated_field.Goals as goal

pub updated_patch-requires : goal.updated_patch-requires
updated_patch-requires g c =
    c.requires c.patch-item.result (item_in c.args.patches.now c.loop-patch.patch-index c.patch-item.result c.loop-patch-test.true c.patch-item.is)

pub loop-patch-preserved : goal.loop-patch-preserved
loop-patch-preserved g c =
    c.in_ok-push.ensures.items
    ∙ made_more (λ (p : Grid). updated_at c.args.dim c.args.strategy.now p) c.args.patches.now c.loop-patch.patch-index c.patch-item.result c.in_ok-updated_patch.field-0
    c.loop-patch.out.items c.loop-patch-test.true c.patch-item.is c.loop-patch.invariant c.in_ok-updated_patch.ensures

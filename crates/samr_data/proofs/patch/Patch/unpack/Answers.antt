use Rattle.std.proofs.Common.{ap, subst, ◌∙◌}
use Rattle.samr_box.specs.declared.vector.IVec.{IVec}
use Rattle.samr_box.specs.Vector.{AtMost}
use Rattle.samr_box.specs.Corners.{Corners}
use Rattle.samr_data.specs.Values.{moved_from}
use Rattle.samr_data.specs.Grids.{Grid, IsGrid, written, copied}
use Rattle.samr_data.proofs.Patches.{holds_still, unpacked}
use Rattle.samr_data.proofs.patch.Patch.unpack.Goals as goal

pub copy_values-requires-clause-out : goal.copy_values-requires-clause-out
copy_values-requires-clause-out c =
    holds_still c.args.region c.alike.result c.alike.ensures (subst (λ (r : Corners). AtMost r.lo r.hi) c.region.view_is c.region.invariant.order)

pub returns : goal.returns
returns c =
    c.copy_values.ensures
    ∙ ap (λ (by : IVec). written c.args.self.now (copied c.args.self.now c.args.region (moved_from c.args.region c.args.values.now by))) c.alike.ensures
    ∙ unpacked c.args.self.now c.args.region c.args.values.now (subst (λ (g : Grid). IsGrid g) c.self.view_is c.self.invariant)

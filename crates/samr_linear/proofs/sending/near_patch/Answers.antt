use Rattle.std.proofs.Common.{subst}
use Rattle.samr_box.specs.Corners.{Corners, IsBox}
use Rattle.samr_fill.proofs.Corners.{width_fits}
use Rattle.samr_linear.proofs.sending.near_patch.Goals as goal

pub near_image-requires : goal.near_image-requires
near_image-requires c =
    width_fits c.patch.inside.bx c.patch.inside.width (subst (λ (b : Corners). IsBox b) c.bx.view_is c.bx.invariant)
    c.patch.invariant.positive c.patch.invariant.whole

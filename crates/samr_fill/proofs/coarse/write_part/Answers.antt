use Rattle.std.proofs.Common.{subst}
use Rattle.samr_box.specs.Corners.{Corners, IsBox}
use Rattle.samr_fill.proofs.Numbers.{InRange-held}
use Rattle.samr_fill.proofs.coarse.write_part.Goals as goal

pub write_cells-requires-clause-can : goal.write_cells-requires-clause-can
write_cells-requires-clause-can g c = λ x h.
    (InRange-held c.args.region x (subst (λ (b : Corners). IsBox b) c.region.view_is c.region.invariant) h, (c.requires.offset, (c.requires.small, (c.requires.here x h, c.requires.below _ (c.requires.here x h)))))

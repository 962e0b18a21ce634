use Rattle.std.proofs.Common.{subst, arith}
use Rattle.samr_box.specs.Vector.{AtMost}
use Rattle.samr_box.specs.Corners.{Corners}
use Rattle.samr_data.proofs.PlaceLaws.{part_cells}
use Rattle.samr_trials_calls.proofs.patches.count.Goals as goal

pub cells-requires : goal.cells-requires
cells-requires c =
    let order : AtMost c.args.part.lo c.args.part.hi = subst (λ (r : Corners). AtMost r.lo r.hi) c.part.view_is c.part.invariant.order in
    omega (arith, c.requires.few, part_cells c.args.whole c.args.part c.requires.inside order)

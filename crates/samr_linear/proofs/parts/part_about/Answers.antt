use Rattle.samr_nest.proofs.Moved.{AtMost-grown}
use Rattle.samr_linear.proofs.parts.part_about.Goals as goal

pub part_of-requires : goal.part_of-requires
part_of-requires c =
    rw (c.minus.ensures, c.plus.ensures)
    (AtMost-grown _ _ c.args.width c.requires.low c.region.invariant.order)

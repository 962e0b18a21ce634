use Rattle.samr_fill.proofs.Corners.{AtMost-minus}
use Rattle.samr_linear.proofs.parts.part_moved_back.Goals as goal

pub part_of-requires : goal.part_of-requires
part_of-requires c = rw (c.minus.ensures, c.minus-2.ensures) (AtMost-minus c.c.inside.lo c.c.inside.hi c.offset-step.result c.c.invariant.order)

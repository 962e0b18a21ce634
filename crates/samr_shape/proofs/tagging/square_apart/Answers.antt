use Rattle.samr_box.proofs.Ranges.{InRange-lo, InRange-hi}
use Rattle.samr_shape.proofs.Positions.{short_twice}
use Rattle.samr_shape.proofs.tagging.square_apart.Goals as goal

pub square_on-requires : goal.square_on-requires
square_on-requires c = rw (c.minus-twice.ensures, c.plus.ensures, c.plus-2.ensures) (short_twice (InRange-lo c.b.invariant) (InRange-hi c.b.invariant) c.requires)

pub square_on-requires-2 : goal.square_on-requires-2
square_on-requires-2 c = rw (c.minus-twice.ensures, c.plus.ensures, c.plus-2.ensures) (short_twice (InRange-lo c.b.invariant) (InRange-hi c.b.invariant) c.requires)

pub square_on-requires-3 : goal.square_on-requires-3
square_on-requires-3 c = rw (c.minus-twice.ensures, c.plus.ensures, c.plus-2.ensures) (short_twice (InRange-lo c.b.invariant) (InRange-hi c.b.invariant) c.requires)

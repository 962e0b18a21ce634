use Rattle.samr_nest.proofs.Moved.{AtMost-grown}
use Rattle.samr_nest.proofs.remains.near_hole.Goals as goal

pub part_between-requires : goal.part_between-requires
part_between-requires c =
    rw (c.minus.ensures, c.plus.ensures) (AtMost-grown c.m.inside.lo c.m.inside.hi c.args.nest c.requires.low c.m.invariant.order)

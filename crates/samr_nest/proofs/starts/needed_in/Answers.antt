use Rattle.samr_nest.proofs.Moved.{AtMost-picked}
use Rattle.samr_nest.proofs.starts.needed_in.Goals as goal

pub part_between-requires : goal.part_between-requires
part_between-requires c =
    rw (c.picked-lo.ensures, c.picked-hi.ensures)
    (AtMost-picked c.d.inside.periodic c.b.inside.lo c.p.inside.lo c.b.inside.hi c.p.inside.hi c.b.invariant.order c.p.invariant.order)

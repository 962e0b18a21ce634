use Rattle.samr_box.proofs.Ranges.{InRange-offset}
use Rattle.samr_box.proofs.space.Domain.offset.Goals as goal

pub returns-clause-small : goal.returns-clause-small
returns-clause-small c =
    rw c.times.ensures (InRange-offset c.lengths-lengths.ensures.shift c.self.invariant.low c.self.invariant.high)

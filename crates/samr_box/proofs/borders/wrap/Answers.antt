use Rattle.std.proofs.Common.{rules}
use Rattle.samr_box.proofs.Wraps.{IsRemainder-wrapped}
use Rattle.samr_box.proofs.borders.wrap.Goals as goal

pub returns-then-d-3-clause-value : goal.returns-then-d-3-clause-value
returns-then-d-3-clause-value c = search rules

pub returns-else-d-3-clause-value : goal.returns-else-d-3-clause-value
returns-else-d-3-clause-value c = search rules

pub returns-then-d-3-clause-periodic : goal.returns-then-d-3-clause-periodic
returns-then-d-3-clause-periodic c =
    rw (returns-then-d-3-clause-value c)
    (IsRemainder-wrapped c.args.d.now c.args.x (rw (← c.d.view_is) c.d.invariant))

pub returns-else-d-3-clause-periodic : goal.returns-else-d-3-clause-periodic
returns-else-d-3-clause-periodic c =
    rw (returns-else-d-3-clause-value c)
    (IsRemainder-wrapped c.args.d.now c.args.x (rw (← c.d.view_is) c.d.invariant))

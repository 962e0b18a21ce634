use Rattle.std.proofs.Common.{arith}
use Rattle.std.proofs.lemmas.Int.{ints}
use Rattle.std.specs.Prelude.{pos}
use Rattle.samr_box.proofs.Ranges.{InRange-lo, InRange-hi}
use Rattle.samr_level.proofs.Reaches.{bounded-minus, bounded-plus, bounded-wider, FitsVector-bounded}
use Rattle.samr_level.proofs.layout.about.Goals as goal

pub minus-requires-2 : goal.minus-requires-2
minus-requires-2 c =
    rw c.minus.ensures
    (FitsVector-bounded (pos 3221225472) (omega (arith, ints))
    (bounded-minus (pos 2147483648) (pos 1073741824) (bounded-minus (pos 1073741824) (pos 1073741824) (InRange-lo c.b.invariant) c.requires) c.offset-step.ensures.small))

pub plus-requires : goal.plus-requires
plus-requires c =
    FitsVector-bounded (pos 2147483648) (omega (arith, ints)) (bounded-plus (pos 1073741824) (pos 1073741824) (InRange-hi c.b.invariant) c.requires)

pub minus-requires-3 : goal.minus-requires-3
minus-requires-3 c =
    rw c.plus.ensures
    (FitsVector-bounded (pos 3221225472) (omega (arith, ints))
    (bounded-minus (pos 2147483648) (pos 1073741824) (bounded-plus (pos 1073741824) (pos 1073741824) (InRange-hi c.b.invariant) c.requires) c.offset-step.ensures.small))

pub invariant_of-result : goal.invariant_of-result
invariant_of-result c =
    let low = bounded-minus (pos 2147483648) (pos 1073741824) (bounded-minus (pos 1073741824) (pos 1073741824) (InRange-lo c.b.invariant) c.requires) c.offset-step.ensures.small in
    let high = bounded-minus (pos 2147483648) (pos 1073741824) (bounded-plus (pos 1073741824) (pos 1073741824) (InRange-hi c.b.invariant) c.requires) c.offset-step.ensures.small in
    rw (c.minus-2.ensures, c.minus.ensures, c.minus-3.ensures, c.plus.ensures)
    (record { lo = bounded-wider (pos 3221225472) (pos 1099511627776) (omega (arith, ints)) low; hi = bounded-wider (pos 3221225472) (pos 1099511627776) (omega (arith, ints)) high })

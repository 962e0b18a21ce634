use Rattle.std.proofs.Common.{◌≡◌, ap, ◌∙◌, arith}
use Rattle.std.proofs.lemmas.Int.{ints}
use Rattle.std.specs.Prelude.{pos, ◌-ℤ◌, ◌<ℤ◌, ◌≤ℤ◌}
use Rattle.samr_box.specs.Vector.{at, put}
use Rattle.samr_box.proofs.Ranges.{IsBox-put_lo, IsBox-put_hi, InRange-lo, InRange-at}
use Rattle.samr_box.proofs.CellSets.{Holds-before, Holds-from_plane}
use Rattle.samr_box.proofs.ibox.split_at.Goals as goal
use Rattle.samr_box.proofs.ibox.split_at.Goals.{After-second-1}

low : (c : After-second-1) → at c.args.axis c.b.inside.lo <ℤ c.args.plane
low c = rw (← c.b.view_is) at c.requires.low

high : (c : After-second-1) → c.args.plane ≤ℤ at c.args.axis c.b.inside.hi
high c = rw (← c.b.view_is) at c.requires.high

first_hi : (c : After-second-1) → c.put.result ≡ put c.args.axis c.b.inside.hi (c.args.plane -ℤ pos 1)
first_hi c =
    let above = low c in
    let range = InRange-at c.args.axis (InRange-lo c.b.invariant) in
    c.put.ensures ∙ ap (put c.args.axis c.b.inside.hi) (omega (arith, ints, above, range.0))

second_lo : (c : After-second-1) → c.put-2.result ≡ put c.args.axis c.b.inside.lo c.args.plane
second_lo c = c.put-2.ensures ∙ ap (put c.args.axis c.b.inside.lo) (omega (arith, ints))

pub invariant_of-first : goal.invariant_of-first
invariant_of-first c =
    rw (first_hi c)
    (IsBox-put_hi c.args.axis {b = record { lo = c.b.inside.lo; hi = c.b.inside.hi }} c.b.invariant
    (omega (arith, ints, low c)) (omega (arith, ints, high c)))

pub invariant_of-second : goal.invariant_of-second
invariant_of-second c =
    rw (second_lo c)
    (IsBox-put_lo c.args.axis {b = record { lo = c.b.inside.lo; hi = c.b.inside.hi }} c.b.invariant
    (omega (arith, ints, low c)) (high c))

pub returns-clause-before : goal.returns-clause-before
returns-clause-before c = rw (first_hi c, ← c.b.view_is)

pub returns-clause-from : goal.returns-clause-from
returns-clause-from c = rw (second_lo c, ← c.b.view_is)

pub returns-clause-cells_before : goal.returns-clause-cells_before
returns-clause-cells_before c =
    rw (first_hi c, ← c.b.view_is)
    (λ x. Holds-before c.args.axis (record { lo = c.b.inside.lo; hi = c.b.inside.hi }) c.args.plane x (high c))

pub returns-clause-cells_from : goal.returns-clause-cells_from
returns-clause-cells_from c =
    rw (second_lo c, ← c.b.view_is)
    (λ x. Holds-from_plane c.args.axis (record { lo = c.b.inside.lo; hi = c.b.inside.hi }) c.args.plane x (omega (arith, ints, low c)))

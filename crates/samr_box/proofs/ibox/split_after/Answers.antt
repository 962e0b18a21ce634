use Rattle.std.proofs.Common.{arith}
use Rattle.std.proofs.lemmas.Int.{ints}
use Rattle.std.specs.Prelude.{pos, ◌+ℤ◌, ◌<ℤ◌, ◌≤ℤ◌}
use Rattle.samr_box.specs.Vector.{at}
use Rattle.samr_box.proofs.Vectors.{at-put}
use Rattle.samr_box.proofs.Slabs.{plane-inside}
use Rattle.samr_box.proofs.Ranges.{IsBox-put_lo, IsBox-put_hi}
use Rattle.samr_box.proofs.CellSets.{Holds-before, Holds-from_plane}
use Rattle.samr_box.proofs.ibox.split_after.Goals as goal
use Rattle.samr_box.proofs.ibox.split_after.Goals.{After-second-1}

inside : (c : After-second-1) → (at c.args.axis c.b.inside.lo <ℤ (at c.args.axis c.b.inside.lo +ℤ pos c.args.count))
    × ((at c.args.axis c.b.inside.lo +ℤ pos c.args.count) ≤ℤ at c.args.axis c.b.inside.hi)
inside c =
    plane-inside c.args.axis (record { lo = c.b.inside.lo; hi = c.b.inside.hi }) c.args.count c.b.invariant.order c.requires.some
    (rw (← c.b.view_is) at c.requires.rest)

pub invariant_of-first : goal.invariant_of-first
invariant_of-first c =
    let p = inside c in
    rw (c.just_before.ensures, c.ahead-plane.ensures, at-put c.args.axis c.b.inside.lo (at c.args.axis c.b.inside.lo +ℤ pos c.args.count))
    (IsBox-put_hi c.args.axis {b = record { lo = c.b.inside.lo; hi = c.b.inside.hi }} c.b.invariant (omega (arith, ints, p.0)) (omega (arith, ints, p.1)))

pub invariant_of-second : goal.invariant_of-second
invariant_of-second c =
    let p = inside c in
    rw c.ahead-plane.ensures
    (IsBox-put_lo c.args.axis {b = record { lo = c.b.inside.lo; hi = c.b.inside.hi }} c.b.invariant (omega (arith, ints, p.0)) p.1)

pub returns-clause-cells_before : goal.returns-clause-cells_before
returns-clause-cells_before c =
    let p = inside c in
    rw (c.just_before.ensures, c.ahead-plane.ensures, at-put c.args.axis c.b.inside.lo (at c.args.axis c.b.inside.lo +ℤ pos c.args.count), ← c.b.view_is)
    (λ x. Holds-before c.args.axis (record { lo = c.b.inside.lo; hi = c.b.inside.hi }) (at c.args.axis c.b.inside.lo +ℤ pos c.args.count) x p.1)

pub returns-clause-cells_from : goal.returns-clause-cells_from
returns-clause-cells_from c =
    let p = inside c in
    rw (c.ahead-plane.ensures, ← c.b.view_is)
    (λ x. Holds-from_plane c.args.axis (record { lo = c.b.inside.lo; hi = c.b.inside.hi }) (at c.args.axis c.b.inside.lo +ℤ pos c.args.count) x (omega (arith, ints, p.0)))

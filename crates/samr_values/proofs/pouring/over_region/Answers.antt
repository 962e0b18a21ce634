use Rattle.std.proofs.Common.{arith, subst}
use Rattle.std.proofs.lemmas.Int.{ints}
use Rattle.std.specs.Prelude.{pos, IfSome, IfNone, ◌↔◌}
use Rattle.samr_box.specs.declared.vector.IVec.{IVec}
use Rattle.samr_box.specs.Corners.{Corners, Holds}
use Rattle.samr_box.specs.Ratios.{coarse}
use Rattle.samr_box.proofs.Ranges.{InRange-lo, InRange-hi}
use Rattle.samr_level.proofs.Reaches.{bounded-last_child, FitsVector-bounded}
use Rattle.samr_values.proofs.Ranges.{times_fits, refined_full}
use Rattle.samr_values.proofs.Over.{over_inside, over_cells, over_none}
use Rattle.samr_values.proofs.pouring.over_region.Goals as goal

pub times-requires : goal.times-requires
times-requires c =
    let b : Corners = record { lo = c.region.inside.lo; hi = c.region.inside.hi } in
    rw c.factors-factors.ensures.value (times_fits b.lo c.args.step (InRange-lo {b = b} c.region.invariant) (rw c.factors-factors.ensures.value at c.factors-factors.ensures.ratio))

pub times-requires-2 : goal.times-requires-2
times-requires-2 c =
    let b : Corners = record { lo = c.region.inside.lo; hi = c.region.inside.hi } in
    rw c.factors-factors.ensures.value (times_fits b.hi c.args.step (InRange-hi {b = b} c.region.invariant) (rw c.factors-factors.ensures.value at c.factors-factors.ensures.ratio))

pub plus-requires : goal.plus-requires
plus-requires c =
    let b : Corners = record { lo = c.region.inside.lo; hi = c.region.inside.hi } in
    rw (c.times-2.ensures, c.minus-last.ensures, c.alike.ensures, c.factors-factors.ensures.value)
    (FitsVector-bounded (pos 274877907200) (omega (arith, ints)) (bounded-last_child {x = b.hi} {r = c.args.step} (InRange-hi {b = b} c.region.invariant) (rw c.factors-factors.ensures.value at c.factors-factors.ensures.ratio)))

pub part_between-requires : goal.part_between-requires
part_between-requires c =
    let b : Corners = record { lo = c.region.inside.lo; hi = c.region.inside.hi } in
    rw (c.plus.ensures, c.times.ensures, c.times-2.ensures, c.minus-last.ensures, c.alike.ensures, c.factors-factors.ensures.value)
    (refined_full b c.args.step c.region.invariant.order (rw c.factors-factors.ensures.value at c.factors-factors.ensures.ratio))

pub returns-clause-inside : goal.returns-clause-inside
returns-clause-inside c =
    let b : Corners = record { lo = c.region.inside.lo; hi = c.region.inside.hi } in
    let ratio = rw c.factors-factors.ensures.value at c.factors-factors.ensures.ratio in
    over_inside b c.args.b c.args.step ratio c.part_between.result
    (rw (c.plus.ensures, c.times.ensures, c.times-2.ensures, c.minus-last.ensures, c.alike.ensures, c.factors-factors.ensures.value) at c.part_between.ensures)

pub returns-clause-cells : goal.returns-clause-cells
returns-clause-cells c =
    let b : Corners = record { lo = c.region.inside.lo; hi = c.region.inside.hi } in
    let ratio = rw c.factors-factors.ensures.value at c.factors-factors.ensures.ratio in
    subst (λ (r : Corners). IfSome c.part_between.result (λ part. (x : IVec) → Holds part x ↔ (Holds c.args.b x × Holds r (coarse x c.args.step)))) c.region.view_is
    (over_cells b c.args.b c.args.step ratio c.part_between.result
    (rw (c.plus.ensures, c.times.ensures, c.times-2.ensures, c.minus-last.ensures, c.alike.ensures, c.factors-factors.ensures.value) at c.part_between.ensures))

pub returns-clause-none : goal.returns-clause-none
returns-clause-none c =
    let b : Corners = record { lo = c.region.inside.lo; hi = c.region.inside.hi } in
    let ratio = rw c.factors-factors.ensures.value at c.factors-factors.ensures.ratio in
    subst (λ (r : Corners). IfNone c.part_between.result ((x : IVec) → Holds c.args.b x → Holds r (coarse x c.args.step) → ⊥)) c.region.view_is
    (over_none b c.args.b c.args.step ratio c.part_between.result
    (rw (c.plus.ensures, c.times.ensures, c.times-2.ensures, c.minus-last.ensures, c.alike.ensures, c.factors-factors.ensures.value) at c.part_between.ensures))

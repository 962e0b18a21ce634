use Rattle.std.proofs.Common.{arith}
use Rattle.std.proofs.lemmas.Int.{ints}
use Rattle.std.specs.Prelude.{pos}
use Rattle.samr_box.proofs.Ranges.{InRange-lo, InRange-hi}
use Rattle.samr_level.proofs.Reaches.{bounded-times, bounded-plus, bounded-minus, bounded-last_child, FitsVector-bounded}
use Rattle.samr_level.proofs.ruler.Ruler.near.Goals as goal

pub times-requires : goal.times-requires
times-requires c =
    FitsVector-bounded (pos 274877906944) (omega (arith, ints))
    (bounded-times (pos 1073741824) (omega (arith, ints)) (InRange-lo c.a.invariant) c.self.invariant.base)

pub minus-low-requires : goal.minus-low-requires
minus-low-requires c =
    rw c.times.ensures
    (FitsVector-bounded (pos 70643622084608) (omega (arith, ints))
    (bounded-minus (pos 274877906944) (pos 70368744177664)
    (bounded-times (pos 1073741824) (omega (arith, ints)) (InRange-lo c.a.invariant) c.self.invariant.base) c.self.invariant.reach))

pub plus-requires : goal.plus-requires
plus-requires c =
    rw c.last_child.ensures
    (FitsVector-bounded (pos 275951649024) (omega (arith, ints))
    (bounded-plus (pos 274877907200) (pos 1073741824) (bounded-last_child (InRange-hi c.b.invariant) c.self.invariant.head) c.offset-step.ensures.small))

pub last_child-requires-2-clause-cell : goal.last_child-requires-2-clause-cell
last_child-requires-2-clause-cell c = InRange-hi c.a.invariant

pub plus-high-requires : goal.plus-high-requires
plus-high-requires c =
    rw c.last_child-2.ensures
    (FitsVector-bounded (pos 70643622084864) (omega (arith, ints))
    (bounded-plus (pos 274877907200) (pos 70368744177664) (bounded-last_child (InRange-hi c.a.invariant) c.self.invariant.base) c.self.invariant.reach))

pub times-requires-2 : goal.times-requires-2
times-requires-2 c =
    FitsVector-bounded (pos 274877906944) (omega (arith, ints))
    (bounded-times (pos 1073741824) (omega (arith, ints)) (InRange-lo c.b.invariant) c.self.invariant.head)

pub plus-requires-2 : goal.plus-requires-2
plus-requires-2 c =
    rw c.times-2.ensures
    (FitsVector-bounded (pos 275951648768) (omega (arith, ints))
    (bounded-plus (pos 274877906944) (pos 1073741824)
    (bounded-times (pos 1073741824) (omega (arith, ints)) (InRange-lo c.b.invariant) c.self.invariant.head) c.offset-step.ensures.small))

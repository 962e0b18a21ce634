use Rattle.std.proofs.Common.{arith}
use Rattle.std.proofs.lemmas.Int.{ints}
use Rattle.std.specs.Prelude.{pos}
use Rattle.samr_box.proofs.Ranges.{InRange-lo, InRange-hi}
use Rattle.samr_level.proofs.Reaches.{bounded-times, bounded-plus, bounded-minus, bounded-last_child, FitsVector-bounded}
use Rattle.samr_bridge.proofs.Windows.{IsBox-window}
use Rattle.samr_verify.proofs.reach.Reach.around.Goals as goal

pub times-requires : goal.times-requires
times-requires c =
    FitsVector-bounded (pos 274877906944) (omega (arith, ints))
    (bounded-times (pos 1073741824) (omega (arith, ints)) (InRange-lo c.a.invariant) c.self.invariant.base)

pub minus-requires : goal.minus-requires
minus-requires c =
    rw c.times.ensures
    (FitsVector-bounded (pos 70643622084608) (omega (arith, ints))
    (bounded-minus (pos 274877906944) (pos 70368744177664)
    (bounded-times (pos 1073741824) (omega (arith, ints)) (InRange-lo c.a.invariant) c.self.invariant.base) c.self.invariant.reach))

pub minus-low-requires : goal.minus-low-requires
minus-low-requires c =
    rw (c.minus.ensures, c.times.ensures)
    (FitsVector-bounded (pos 70644695826432) (omega (arith, ints))
    (bounded-minus (pos 70643622084608) (pos 1073741824)
    (bounded-minus (pos 274877906944) (pos 70368744177664)
    (bounded-times (pos 1073741824) (omega (arith, ints)) (InRange-lo c.a.invariant) c.self.invariant.base) c.self.invariant.reach)
    c.offset-step.ensures.small))

pub times-requires-2 : goal.times-requires-2
times-requires-2 c =
    FitsVector-bounded (pos 274877906944) (omega (arith, ints))
    (bounded-times (pos 1073741824) (omega (arith, ints)) (InRange-hi c.a.invariant) c.self.invariant.base)

pub plus-requires : goal.plus-requires
plus-requires c =
    rw (c.times-2.ensures, c.minus-rest.ensures, c.alike.ensures)
    (FitsVector-bounded (pos 274877907200) (omega (arith, ints))
    (bounded-last_child (InRange-hi c.a.invariant) c.self.invariant.base))

pub plus-requires-2 : goal.plus-requires-2
plus-requires-2 c =
    rw (c.plus.ensures, c.times-2.ensures, c.minus-rest.ensures, c.alike.ensures)
    (FitsVector-bounded (pos 70643622084864) (omega (arith, ints))
    (bounded-plus (pos 274877907200) (pos 70368744177664)
    (bounded-last_child (InRange-hi c.a.invariant) c.self.invariant.base) c.self.invariant.reach))

pub minus-high-requires : goal.minus-high-requires
minus-high-requires c =
    rw (c.plus-2.ensures, c.plus.ensures, c.times-2.ensures, c.minus-rest.ensures, c.alike.ensures)
    (FitsVector-bounded (pos 70644695826688) (omega (arith, ints))
    (bounded-minus (pos 70643622084864) (pos 1073741824)
    (bounded-plus (pos 274877907200) (pos 70368744177664)
    (bounded-last_child (InRange-hi c.a.invariant) c.self.invariant.base) c.self.invariant.reach)
    c.offset-step.ensures.small))

pub invariant_of-result : goal.invariant_of-result
invariant_of-result c =
    rw c.greatest.ensures (IsBox-window _ _ c.clipped-lo.ensures.range c.clipped-hi.ensures.range)

use Rattle.std.proofs.Common.{arith}
use Rattle.std.proofs.lemmas.Int.{ints}
use Rattle.std.specs.Prelude.{pos}
use Rattle.samr_box.proofs.Ranges.{InRange-lo, InRange-hi}
use Rattle.samr_level.proofs.Reaches.{bounded-minus, bounded-plus, FitsVector-bounded}
use Rattle.samr_tags.proofs.Regions.{wider, moved_order}
use Rattle.samr_tags.proofs.region.seen_region.Goals as goal

pub minus-requires : goal.minus-requires
minus-requires c =
    rw c.plus.ensures
    (FitsVector-bounded (pos 3221225472) (omega (arith, ints))
    (bounded-minus (pos 2147483648) (pos 1073741824) (bounded-plus (pos 1073741824) (pos 1073741824) (InRange-lo c.head.invariant) c.offset-step.ensures.small) c.requires.range))

pub plus-requires-2 : goal.plus-requires-2
plus-requires-2 c =
    FitsVector-bounded (pos 2147483648) (omega (arith, ints)) (bounded-plus (pos 1073741824) (pos 1073741824) (InRange-hi c.head.invariant) c.offset-step.ensures.small)

pub plus-requires-3 : goal.plus-requires-3
plus-requires-3 c =
    rw c.plus-2.ensures
    (FitsVector-bounded (pos 3221225472) (omega (arith, ints))
    (bounded-plus (pos 2147483648) (pos 1073741824) (bounded-plus (pos 1073741824) (pos 1073741824) (InRange-hi c.head.invariant) c.offset-step.ensures.small) c.requires.range))

pub between-requires : goal.between-requires
between-requires c =
    rw (c.minus.ensures, c.plus.ensures, c.plus-3.ensures, c.plus-2.ensures)
    (wider _ _ c.args.buffer (moved_order c.head.inside.lo c.head.inside.hi c.offset-step.result c.head.invariant.order) c.requires.low)

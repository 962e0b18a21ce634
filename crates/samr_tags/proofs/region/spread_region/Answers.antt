use Rattle.std.proofs.Common.{arith}
use Rattle.std.proofs.lemmas.Int.{ints}
use Rattle.std.specs.Prelude.{pos}
use Rattle.samr_level.proofs.Reaches.{bounded-minus, bounded-plus, FitsVector-bounded}
use Rattle.samr_tags.proofs.Regions.{wider, same_order}
use Rattle.samr_tags.proofs.region.spread_region.Goals as goal

pub minus-requires : goal.minus-requires
minus-requires c =
    rw c.minus-here.ensures
    (FitsVector-bounded (pos 3221225472) (omega (arith, ints))
    (bounded-minus (pos 2147483648) (pos 1073741824) (bounded-minus (pos 1073741824) (pos 1073741824) c.requires.cell c.offset.ensures.small) c.requires.range))

pub plus-requires : goal.plus-requires
plus-requires c =
    rw c.minus-here.ensures
    (FitsVector-bounded (pos 3221225472) (omega (arith, ints))
    (bounded-plus (pos 2147483648) (pos 1073741824) (bounded-minus (pos 1073741824) (pos 1073741824) c.requires.cell c.offset.ensures.small) c.requires.range))

pub between-requires : goal.between-requires
between-requires c = rw (c.minus.ensures, c.plus.ensures) (wider _ _ c.args.buffer (same_order c.minus-here.result) c.requires.low)

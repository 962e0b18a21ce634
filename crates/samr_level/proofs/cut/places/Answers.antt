use Rattle.std.proofs.Common.{arith}
use Rattle.std.proofs.lemmas.Int.{ints}
use Rattle.std.specs.Prelude.{pos}
use Rattle.samr_box.proofs.Ranges.{InRange-lo}
use Rattle.samr_level.proofs.Reaches.{bounded-coarse, bounded-minus, bounded-plus, bounded-one, FitsVector-bounded}
use Rattle.samr_level.proofs.cut.places.Goals as goal

pub plus-requires : goal.plus-requires
plus-requires c =
    rw (c.floor_over-high.ensures, c.minus-2.ensures)
    (FitsVector-bounded (pos 1100585369601) (omega (arith, ints))
    (bounded-plus (pos 1100585369600) (pos 1)
    (bounded-coarse (pos 1100585369600) (omega (arith, ints)) c.requires
    (bounded-minus (pos 1099511627776) (pos 1073741824) c.window.invariant.hi (InRange-lo c.bx.invariant)))
    bounded-one))

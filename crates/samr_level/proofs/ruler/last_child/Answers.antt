use Rattle.std.proofs.Common.{arith}
use Rattle.std.proofs.lemmas.Int.{ints}
use Rattle.std.specs.Prelude.{pos}
use Rattle.samr_level.proofs.Reaches.{bounded-times, bounded-ratio, bounded-last_child, FitsVector-bounded}
use Rattle.samr_level.proofs.ruler.last_child.Goals as goal

pub times-requires : goal.times-requires
times-requires c =
    FitsVector-bounded (pos 274877906944) (omega (arith, ints)) (bounded-times (pos 1073741824) (omega (arith, ints)) c.requires.cell c.requires.ratio)

pub minus-requires : goal.minus-requires
minus-requires c = rw c.alike.ensures (FitsVector-bounded (pos 256) (omega (arith, ints)) (bounded-ratio c.requires.ratio))

pub plus-requires : goal.plus-requires
plus-requires c =
    rw (c.times.ensures, c.minus.ensures, c.alike.ensures)
    (FitsVector-bounded (pos 274877907200) (omega (arith, ints)) (bounded-last_child c.requires.cell c.requires.ratio))

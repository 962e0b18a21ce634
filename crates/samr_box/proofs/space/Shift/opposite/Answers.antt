use Rattle.std.proofs.Common.{arith}
use Rattle.std.proofs.lemmas.Int.{ints}
use Rattle.samr_box.proofs.Vectors.{same_cell}
use Rattle.samr_box.proofs.space.Shift.opposite.Goals as goal

pub returns : goal.returns
returns c =
    rw (← c.self.view_is) (same_cell (omega (arith, ints)) (omega (arith, ints)) (omega (arith, ints)))

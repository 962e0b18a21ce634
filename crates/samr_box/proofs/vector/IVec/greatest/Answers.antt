use Rattle.std.proofs.Common.{arith}
use Rattle.std.proofs.lemmas.Int.{ints, to_z-of_z}
use Rattle.samr_box.proofs.Vectors.{same_cell}
use Rattle.samr_box.proofs.vector.IVec.greatest.Goals as goal

pub returns : goal.returns
returns c = same_cell (grind (arith, ints, to_z-of_z)) (grind (arith, ints, to_z-of_z)) (grind (arith, ints, to_z-of_z))

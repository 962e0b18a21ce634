use Rattle.std.proofs.Common.{arith}
use Rattle.std.proofs.lemmas.Int.{ints}
use Rattle.samr_box.proofs.vector.IVec.at_most.Goals as goal

pub returns-clause-means : goal.returns-clause-means
returns-clause-means c = (
  λ t. record { k = omega (arith, ints); j = omega (arith, ints); i = grind (arith, ints) },
  λ h. grind (arith, ints, h.i),
)

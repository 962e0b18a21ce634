use Rattle.std.proofs.Common.{arith}
use Rattle.samr_balancing.proofs.HandLaws.{low}
use Rattle.samr_balancing.proofs.climbing.UpStepStepLetterBodyClimbTurnClimbingUp.end.Goals as goal

pub overflow_add-result : goal.overflow_add-result
overflow_add-result g c =
    let k = c.requires.2 in
    omega (arith, low c.requires.0.at c.requires.1 _ _ _ k.0.0.0.0 k.0.0.0.1, k.1, k.2)

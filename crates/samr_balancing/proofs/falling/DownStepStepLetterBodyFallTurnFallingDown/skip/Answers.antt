use Rattle.std.proofs.Common.{arith, refl}
use Rattle.samr_balancing.proofs.HandLaws.{low, down_skipped}
use Rattle.samr_balancing.proofs.falling.DownStepStepLetterBodyFallTurnFallingDown.skip.Goals as goal

pub overflow_add-result : goal.overflow_add-result
overflow_add-result g c =
    let k = c.requires.2 in
    omega (arith, low c.requires.0.at c.requires.1 _ _ _ k.0.0.0.0 k.0.0.0.1, k.1.same_round, k.1.below)

pub returns-clause-after : goal.returns-clause-after
returns-clause-after g c = λ w r k quiet.
    (k.0, down_skipped w r _ _ _ k.0.0.0.0 k.0.0.0.1 c.args.input.round c.args.input.hand _ k.1 quiet refl)

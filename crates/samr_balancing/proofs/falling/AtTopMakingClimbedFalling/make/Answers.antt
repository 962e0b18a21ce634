use Rattle.std.proofs.Common.{arith, refl, ◌∙◌}
use Rattle.samr_balancing.proofs.HandLaws.{turns}
use Rattle.samr_balancing.proofs.falling.AtTopMakingClimbedFalling.make.Goals as goal

pub returns-clause-after : goal.returns-clause-after
returns-clause-after g c = λ w r k.
    (k.0, record { same_round = refl; below = omega arith; same_hand = k.1 ∙ turns w r _ _ _ k.0.0.0.0 k.0.0.0.1 })

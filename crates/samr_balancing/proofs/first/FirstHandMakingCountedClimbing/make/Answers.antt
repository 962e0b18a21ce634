use Rattle.std.proofs.Common.{arith, refl, ◌∙◌}
use Rattle.samr_balancing.proofs.HandLaws.{first_is}
use Rattle.samr_balancing.proofs.first.FirstHandMakingCountedClimbing.make.Goals as goal

pub returns-clause-after : goal.returns-clause-after
returns-clause-after g c = λ w r k. (
  k,
  record {
    same_round = refl;
    below = omega arith;
    same_hand = first_is w r _ _ _ k.0.0.0 k.0.0.1 c.as_slice.result.now c.in_ok-hand.hand (c.as_slice.ensures ∙ k.0.2) c.in_ok-hand.ensures;
  },
)

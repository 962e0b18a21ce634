-- What a rank has in the rounds of the balance of a pass.
use Rattle.std.specs.Prelude.{◌≡◌, ℕ, ◌+◌, ◌<◌}
use Rattle.samr_tree.specs.Tree.{bottom}
use Rattle.samr_balance.specs.declared.hands.Hand.{Hand}
use Rattle.samr_balance.specs.Home.{Homes, balancing_of}
use Rattle.samr_balance.specs.Rounds.{Round, going_up, going_down}
use Rattle.samr_wholes.specs.Wholes.{homing}
use Rattle.samr_msg.specs.Places.{AtPass, AtRound}
use Rattle.samr_msg.specs.PassStops.{hands_at}

-- the homes of what the cut of a pass leaves
abbrev pub homes_at : AtPass → Homes
homes_at w = homing w.at.setting.problem w.pass

-- the number of a round, which is below a bound, and the hand that a rank has before it
pub record HasHand (before : Round → ℕ → Hand) (bound : ℕ) (round : ℕ) (hand : Hand) (w : AtRound) (r : ℕ) : Type 0 where
  pub same_round : round ≡ w.round
  pub below : w.round < bound
  pub same_hand : hand ≡ before (hands_at w) r

-- the hand that it has after the way down
abbrev pub last_hand : AtPass → ℕ → Hand
last_hand w r = going_down (record { balancing = balancing_of (homes_at w); round = bottom w.pass.ranks }) r

-- and after the way up
abbrev pub climbed_hand : AtPass → ℕ → Hand
climbed_hand w r = going_up (record { balancing = balancing_of (homes_at w); round = bottom w.pass.ranks + 1 }) r

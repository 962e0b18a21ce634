-- All ranks through all rounds of a balance.
use Rattle.std.specs.Prelude.{◌≡◌, ℕ, List, length, Some}
use Rattle.std.specs.List.{slice_get}
use Rattle.samr_level.specs.Refs.{Owned}
use Rattle.samr_load.specs.Balanced.{quota_of, cells_in}
use Rattle.samr_balance.specs.declared.hands.Hand.{Hand}
use Rattle.samr_balance.specs.Rounds.{Round}
use Rattle.samr_balance.specs.Home.{Homes, balancing_of}

-- the boxes, with equal shares of their cells, and a round of their balance
abbrev pub homes_of : ℕ → ℕ → List Owned → Homes
homes_of ranks smallest boxes =
    record { ranks = ranks; smallest = smallest; quota = quota_of (cells_in boxes) ranks; boxes = boxes }

abbrev pub round_at : ℕ → ℕ → List Owned → ℕ → Round
round_at ranks smallest boxes round = record { balancing = balancing_of (homes_of ranks smallest boxes); round = round }

-- the hands of so many ranks, in order of rank
pub record AreHands (hand : ℕ → Hand) (ranks : ℕ) (hands : List Hand) : Type 0 where
  pub same_ranks : length hands ≡ ranks
  pub each : (rank : ℕ) (out : Hand) → slice_get hands rank ≡ Some out → out ≡ hand rank

-- One round of a sum up the tree: ranks tell their parents their numbers, and each adds to its own what it is told.
use Rattle.std.specs.Prelude.{◌≡◌, ℕ, ◌+◌, ◌-◌, ◌/◌, ◌<◌, ◌^◌, ◌&&◌, nat_eq, Option, Some, None, if◌then◌else◌, sum_by}
use Rattle.samr_stage.specs.declared.stage.Held.{Held}
use Rattle.samr_stage.specs.Row.{heard, column}
use Rattle.samr_tree.specs.Tree.{tells_up}

-- the ranks' numbers before a round
pub record Sums : Type 0 where
  pub ranks : ℕ
  pub round : ℕ
  pub number : ℕ → ℕ

-- each rank whose turn it is tells its parent its number
unfoldable pub sum_row : Sums → ℕ → ℕ → Option ℕ
sum_row w from to =
    if (tells_up w.ranks w.round from && nat_eq ((from - 1) / 2) to) then Some (w.number from) else None

-- what a rank has after the round: its number and all that it is told
unfoldable pub summed : Sums → ℕ → ℕ
summed w rank =
    w.number rank + sum_by (λ (held : Held ℕ). held.body) (heard (column (sum_row w) rank) w.ranks)

-- a rank's part of the round
pub record IsSum (rank ranks round number : ℕ) (w : Sums) (r : ℕ) : Type 0 where
  pub same_rank : rank ≡ r
  pub same_ranks : ranks ≡ w.ranks
  pub same_round : round ≡ w.round
  pub same_number : number ≡ w.number r
  pub within : rank < ranks
  pub fits : summed w r < 2 ^ 64

-- One round of telling a number down the tree: ranks have their parents' numbers from then on.
use Rattle.std.specs.Prelude.{◌≡◌, ℕ, ◌-◌, ◌/◌, ◌<◌, ◌&&◌, nat_eq, Option, Some, None, if◌then◌else◌}
use Rattle.samr_tree.specs.Tree.{told_down}

-- the ranks' numbers before a round
pub record Tellings : Type 0 where
  pub ranks : ℕ
  pub round : ℕ
  pub number : ℕ → ℕ

-- each rank whose turn it is is told by its parent
unfoldable pub tell_row : Tellings → ℕ → ℕ → Option ℕ
tell_row w from to =
    if (told_down w.ranks w.round to && nat_eq ((to - 1) / 2) from) then Some (w.number from) else None

-- what a rank has after the round: its parent's number where it is told, and else its own
unfoldable pub informed : Tellings → ℕ → ℕ
informed w rank =
    if told_down w.ranks w.round rank then w.number ((rank - 1) / 2) else w.number rank

-- a rank's part of the round
pub record IsTelling (rank ranks round number : ℕ) (w : Tellings) (r : ℕ) : Type 0 where
  pub same_rank : rank ≡ r
  pub same_ranks : ranks ≡ w.ranks
  pub same_round : round ≡ w.round
  pub same_number : number ≡ w.number r
  pub within : rank < ranks

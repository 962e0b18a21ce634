-- A rank before a round of a sum over all ranks.
use Rattle.std.specs.Prelude.{◌≡◌, ℕ, ◌+◌, ◌<◌, List, length}
use Rattle.samr_tree.specs.TreeSum.{AreSummable}

-- the numbers of a sum, and a round of it
pub record Round : Type 0 where
  pub values : List ℕ
  pub round : ℕ

abbrev pub next_round : Round → Round
next_round w = record { values = w.values; round = w.round + 1 }

-- a rank that knows its place and the round, which is below a bound
pub record IsSeat (bound : ℕ) (own ranks round : ℕ) (w : Round) (rank : ℕ) : Type 0 where
  pub summable : AreSummable w.values
  pub is_rank : rank < length w.values
  pub same_rank : own ≡ rank
  pub same_ranks : ranks ≡ length w.values
  pub same_round : round ≡ w.round
  pub below : w.round < bound

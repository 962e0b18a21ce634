-- What all ranks have, in order of rank.
use Rattle.std.specs.Prelude.{◌≡◌, ℕ, List, length, Some}
use Rattle.std.specs.List.{slice_get}

-- the numbers of so many ranks
pub record AreNumbers (number : ℕ → ℕ) (ranks : ℕ) (numbers : List ℕ) : Type 0 where
  pub same_ranks : length numbers ≡ ranks
  pub each : (rank out : ℕ) → slice_get numbers rank ≡ Some out → out ≡ number rank

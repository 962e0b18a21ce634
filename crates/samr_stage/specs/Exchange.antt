-- One stage on all ranks: each rank holds its part of a whole, and at the end each has its part of the result.
use Rattle.std.specs.Prelude.{◌≡◌, ℕ, List, length, slice_get, Some}

-- the stages of all ranks, in order of rank, hold the parts of a whole
pub record AreParts {S W : Type 0} (holds : S → W → ℕ → Type 0) (ranks : W → ℕ) (w : W) (stages : List S) : Type 0 where
  pub same_ranks : ranks w ≡ length stages
  pub part : (rank : ℕ) (stage : S) → slice_get stages rank ≡ Some stage → holds stage w rank

-- what the ranks have at the end, in order of rank, is what the whole gives them
abbrev pub AreResults : {W O : Type 0} → (W → ℕ → O → Type 0) → W → List O → Type 0
AreResults {W} {O} gives w outs = (rank : ℕ) (out : O) → slice_get outs rank ≡ Some out → gives w rank out

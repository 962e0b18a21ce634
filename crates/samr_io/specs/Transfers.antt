-- What whole transfers do to the bytes that a source has left and a sink holds, where those are known.
use Rattle.std.specs.Prelude.{◌≡◌, ℕ, ◌≤◌, List, length, take, drop, ⊤, None, Some}
use Rattle.std.specs.declared.option.Option.{Option}
use Rattle.std.specs.Io.KnownBytes.{Consumes, Appends}

-- the first `limit` of the known bytes were taken, or all of them where there are fewer
abbrev pub TakesUpTo : Option (List ℕ) → Option (List ℕ) → ℕ → List ℕ → Type 0
TakesUpTo None new limit bytes = ⊤
TakesUpTo (Some xs) None limit bytes = ⊥
TakesUpTo (Some xs) (Some ys) limit bytes = (bytes ≡ take limit xs) × (ys ≡ drop limit xs)

-- a front of the known bytes was taken, of at most `limit` bytes
abbrev pub TakesAtMost : Option (List ℕ) → Option (List ℕ) → ℕ → Type 0
TakesAtMost old new limit = (bytes : List ℕ) × Consumes old new bytes × (length bytes ≤ limit)

-- the known bytes grew by a front of the text
abbrev pub AppendsFront : Option (List ℕ) → Option (List ℕ) → List ℕ → Type 0
AppendsFront old new text = (n : ℕ) × (n ≤ length text) × Appends old new (take n text)

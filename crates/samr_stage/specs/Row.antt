-- The row of a stage: from one rank to another it has a body or none. A line of it is what it has for one rank.
use Rattle.std.specs.Prelude.{ℕ, List, Option, option_map}
use Rattle.std.specs.List.{range_with_len, filter_map}
use Rattle.samr_stage.specs.declared.stage.Held.{Held}

-- what a line has at the ranks below n, in order of rank, each made with its rank
unfoldable pub along : {B X : Type 0} → (ℕ → B → X) → (ℕ → Option B) → ℕ → List X
along make line n = filter_map (λ k. option_map (make k) (line k)) (range_with_len 0 n)

-- the letters that a rank has for others, by addressee
abbrev pub told : {B : Type 0} → (ℕ → Option B) → ℕ → List (ℕ × B)
told line n = along (λ to body. (to, body)) line n

-- the letters that others have for a rank, by sender
abbrev pub heard : {B : Type 0} → (ℕ → Option B) → ℕ → List (Held B)
heard line n = along (λ from body. record { sender = from; body = body }) line n

-- what the ranks have for one of them
abbrev pub column : {B : Type 0} → (ℕ → ℕ → Option B) → ℕ → ℕ → Option B
column row to from = row from to

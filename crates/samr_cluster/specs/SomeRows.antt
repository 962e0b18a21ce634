-- A row in which a rank tells each other rank to which it has something to say.
use Rattle.std.specs.Prelude.{ℕ, Bool, ◌&&◌, not, nat_eq, nat_lt, Option, Some, None, if◌then◌else◌}

-- whether a rank tells another
abbrev pub tells_some : ℕ → (ℕ → ℕ → Bool) → ℕ → ℕ → Bool
tells_some ranks some from to = nat_lt from ranks && (nat_lt to ranks && (not (nat_eq to from) && some from to))

-- the row: a body where there is something to say
unfoldable pub some_row : {B : Type 0} → ℕ → (ℕ → ℕ → Bool) → (ℕ → ℕ → B) → ℕ → ℕ → Option B
some_row ranks some body from to = if tells_some ranks some from to then Some (body from to) else None

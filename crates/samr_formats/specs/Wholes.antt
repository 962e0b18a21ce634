-- Bytes that are one value, with nothing behind it.
use Rattle.std.specs.Prelude.{ℕ, List, length, Option, Some, None, ◌==◌, if◌then◌else◌}
use Rattle.samr_formats.specs.Formats.{◌>>=◌}

abbrev pub read_whole : {A : Type 0} → (List ℕ → Option (A × List ℕ)) → List ℕ → Option A
read_whole read bytes = read bytes >>= λ x. if length x.1 == 0 then Some x.0 else None

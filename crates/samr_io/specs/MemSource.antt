-- A source over bytes in memory: what it has left, and which of its calls fail.
use Rattle.std.specs.Prelude.{ℕ, List, drop}
use Rattle.samr_io.specs.Faults.{next_count}

-- the bytes left, the numbers of the calls that fail, and the calls and the faults so far
pub record SourceState : Type 0 where
  pub left : List ℕ
  pub fails : List ℕ
  pub calls : ℕ
  pub faults : ℕ

-- the source after a call that gave n bytes
abbrev pub source_after : SourceState → ℕ → SourceState
source_after s n = record s { left = drop n s.left; calls = next_count s.calls }

-- the source after a call that failed
abbrev pub source_failed : SourceState → SourceState
source_failed s = record s { calls = next_count s.calls; faults = next_count s.faults }

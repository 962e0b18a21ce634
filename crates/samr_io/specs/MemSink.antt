-- A sink in memory: what it holds, what a call takes, and which of its calls fail.
use Rattle.std.specs.Prelude.{ℕ, ◌+◌, Bool, ◌==◌, ◌&&◌, ◌||◌, if◌then◌else◌, nat_lt, min, List, ◌++◌, length, take}
use Rattle.samr_io.specs.Faults.{next_count, is_planned}

-- the bytes held, the room for them, the most bytes of a call, the numbers of the calls that fail,
-- and the calls and the faults so far
pub record SinkState : Type 0 where
  pub held : List ℕ
  pub room : ℕ
  pub most : ℕ
  pub fails : List ℕ
  pub calls : ℕ
  pub faults : ℕ

-- how many bytes of the piece a call takes
abbrev pub sink_takes : SinkState → List ℕ → ℕ
sink_takes s piece = min s.most (length piece)

-- the call is one of those that fail, or would pass the room
abbrev pub sink_fails : SinkState → List ℕ → Bool
sink_fails s piece = is_planned s.fails s.calls || nat_lt s.room (length s.held + sink_takes s piece)

-- the sink after a call that took n bytes of the piece: none of a piece that has one is a fault
abbrev pub sink_after : SinkState → List ℕ → ℕ → SinkState
sink_after s piece n =
    let faults = if n == 0 && nat_lt 0 (length piece) then next_count s.faults else s.faults in
    record s { held = s.held ++ take n piece; calls = next_count s.calls; faults = faults }

-- the sink after a call that failed
abbrev pub sink_failed : SinkState → SinkState
sink_failed s = record s { calls = next_count s.calls; faults = next_count s.faults }

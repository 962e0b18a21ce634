-- A rank's edges from its boxes of the old level of the new one's number.
use Rattle.std.specs.Prelude.{List, [], Option, Some, None}
use Rattle.samr_level.specs.declared.parts.Pair.{Pair}
use Rattle.samr_level.specs.Refs.{Link}

-- where there was no old level it has none
abbrev pub back_edges : Option Pair → List Link
back_edges (Some p) = p.back.edges
back_edges None = []

-- When a known fault decides: it stands before all that is left to look at.
use Rattle.std.specs.Prelude.{ℕ, Bool, false, nat_lt, ◌&&◌, Option, Some, None, List, [], ◌∷◌}
use Rattle.std.specs.List.{list_all}
use Rattle.samr_verify.specs.declared.fault.Fault.{Fault}
use Rattle.samr_verify.specs.declared.printed.PrintedEdge.{PrintedEdge}
use Rattle.samr_verify.specs.declared.printed.PrintedLevel.{PrintedLevel}

-- a fault stands before a line, and before all lines of edges
abbrev pub stands_before : Option Fault → ℕ → Bool
stands_before None line = false
stands_before (Some f) line = nat_lt f.line line

abbrev pub stands_before_all : Option Fault → List PrintedEdge → Bool
stands_before_all o edges = list_all (λ e. stands_before o e.line) edges

-- before all lines at which a level's edges may have a fault
abbrev pub decides_edges : Option Fault → PrintedLevel → Bool
decides_edges o level = stands_before o level.after && stands_before_all o level.edges

-- the first of some places, ascending, is below a bound
abbrev pub begins_below : List ℕ → ℕ → Bool
begins_below [] bound = false
begins_below (place ∷ places) bound = nat_lt place bound

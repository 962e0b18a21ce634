use Rattle.std.proofs.Common.{◌≡◌, ◌++◌, take, map, filter}
use Rattle.std.specs.List.{flat_map}
use Rattle.samr_level.specs.Overlaps.{is_true}
use Rattle.samr_level.specs.Refs.{link}
use Rattle.samr_level.proofs.overlap.push_edges.Given as goal

abbrev pub invariant-loop-b : goal.invariant-loop-b
invariant-loop-b l = l.edges.items ≡ l.fn.edges.items ++ flat_map (λ b. filter (λ e. is_true l.ruler e) (map (λ s. link l.fn.a b s) l.shifts)) (take l.b-index l.heads)

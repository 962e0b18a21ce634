use Rattle.std.proofs.Common.{◌≡◌, take, map, filter}
use Rattle.std.specs.List.{flat_map}
use Rattle.samr_level.specs.Overlaps.{is_true}
use Rattle.samr_level.specs.Refs.{link}
use Rattle.samr_level.proofs.overlap.search.Given as goal

abbrev pub invariant-loop-a : goal.invariant-loop-a
invariant-loop-a l = l.edges.items ≡ flat_map (λ a. flat_map (λ b. filter (λ e. is_true l.ruler e) (map (λ s. link a b s) l.shifts)) l.heads) (take l.a-index l.bases)

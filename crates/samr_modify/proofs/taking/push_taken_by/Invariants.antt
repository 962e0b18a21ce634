use Rattle.std.proofs.Common.{◌≡◌, ◌++◌, take, map, filter}
use Rattle.samr_level.specs.Overlaps.{is_true}
use Rattle.samr_level.specs.Refs.{link}
use Rattle.samr_modify.proofs.taking.push_taken_by.Given as goal

abbrev pub invariant-loop-e : goal.invariant-loop-e
invariant-loop-e l = l.out.items ≡ l.fn.out.items ++ filter (λ e. is_true l.ruler e) (map (λ e. link l.fn.b e.head e.shift) (take l.e-index l.edges))

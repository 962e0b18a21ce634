use Rattle.std.proofs.Common.{◌≡◌, ◌++◌, take, map, filter}
use Rattle.samr_level.specs.Overlaps.{is_true}
use Rattle.samr_level.specs.Refs.{link}
use Rattle.samr_level.proofs.overlap.push_images.Given as goal

abbrev pub invariant-loop-s : goal.invariant-loop-s
invariant-loop-s l = l.edges.items ≡ l.fn.edges.items ++ filter (λ e. is_true l.ruler e) (map (λ s. link l.fn.a l.fn.b s) (take l.s-index l.shifts))

use Rattle.std.proofs.Common.{◌≡◌, ◌++◌}
use Rattle.std.specs.List.{flat_map, range_with_len}
use Rattle.samr_level.specs.Cuts.{row_in}
use Rattle.samr_level.proofs.cut.Cut.push_plane.Given as goal

abbrev pub invariant-loop-y : goal.invariant-loop-y
invariant-loop-y l = l.out.items ≡ l.fn.out.items ++ flat_map (λ y. row_in l.fn.window l.fn.self y l.z) (range_with_len 0 l.y)

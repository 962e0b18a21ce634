use Rattle.std.proofs.Common.{◌≡◌, ◌++◌}
use Rattle.std.specs.List.{range_with_len, flat_map}
use Rattle.samr_find.specs.Cells.{row}
use Rattle.samr_mesh_plain.proofs.cells.push_plane.Given as goal

abbrev pub invariant-loop-y : goal.invariant-loop-y
invariant-loop-y l = l.out.items ≡ l.fn.out.items ++ flat_map (λ y. row l.b y l.z) (range_with_len 0 l.y)

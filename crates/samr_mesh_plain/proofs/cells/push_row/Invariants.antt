use Rattle.std.proofs.Common.{◌≡◌, ◌++◌, map}
use Rattle.std.specs.List.{range_with_len}
use Rattle.samr_find.specs.Cells.{cell_at}
use Rattle.samr_mesh_plain.proofs.cells.push_row.Given as goal

abbrev pub invariant-loop-x : goal.invariant-loop-x
invariant-loop-x l = l.out.items ≡ l.fn.out.items ++ map (λ x. cell_at l.b x l.y l.z) (range_with_len 0 l.x)

use Rattle.std.proofs.Common.{◌≡◌}
use Rattle.std.specs.List.{range_with_len, flat_map}
use Rattle.samr_find.specs.Cells.{plane}
use Rattle.samr_mesh_plain.proofs.cells.cells_in.Given as goal

abbrev pub invariant-loop-z : goal.invariant-loop-z
invariant-loop-z l = l.out.items ≡ flat_map (λ z. plane l.b z) (range_with_len 0 l.z)

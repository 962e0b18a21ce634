use Rattle.std.proofs.Common.{◌≡◌, ◌++◌}
use Rattle.std.specs.List.{flat_map, range_with_len}
use Rattle.samr_level.specs.Cuts.{plane_in}
use Rattle.samr_level.proofs.cut.Cut.push_members.Given as goal

abbrev pub invariant-loop-z : goal.invariant-loop-z
invariant-loop-z l = l.out.items ≡ l.fn.out.items ++ flat_map (λ z. plane_in l.fn.window l.fn.self z) (range_with_len 0 l.z)

use Rattle.std.proofs.Common.{◌≡◌, ◌++◌}
use Rattle.std.specs.List.{flat_map, range_with_len}
use Rattle.samr_level.proofs.BlockRows.{member_in}
use Rattle.samr_level.proofs.cut.Cut.push_row.Given as goal

abbrev pub invariant-loop-x : goal.invariant-loop-x
invariant-loop-x l = l.out.items ≡ l.fn.out.items ++ flat_map (λ x. member_in l.fn.window l.fn.self l.y l.z x) (range_with_len 0 l.x)

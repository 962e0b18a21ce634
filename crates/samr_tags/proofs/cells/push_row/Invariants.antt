use Rattle.std.proofs.Common.{◌≡◌, ◌++◌, map, filter}
use Rattle.std.specs.List.{range_with_len}
use Rattle.samr_find.specs.Cells.{cell_at}
use Rattle.samr_tags.proofs.cells.push_row.Given as goal

abbrev pub invariant-loop-x : goal.invariant-loop-x
invariant-loop-x g l =
    l.out.items ≡ l.fn.out.items ++ filter (g.T.Given.is_tagged l.fn.given l.fn.level l.fn.step) (map (λ x. cell_at l.fn.b x l.fn.y l.fn.z) (range_with_len 0 l.x))

use Rattle.std.proofs.Common.{◌≡◌, ◌++◌, filter}
use Rattle.std.specs.List.{range_with_len, flat_map}
use Rattle.samr_find.specs.Cells.{row}
use Rattle.samr_tags.proofs.cells.push_plane.Given as goal

abbrev pub invariant-loop-y : goal.invariant-loop-y
invariant-loop-y g l =
    l.out.items ≡ l.fn.out.items ++ filter (g.T.Given.is_tagged l.fn.given l.fn.level l.fn.step) (flat_map (λ y. row l.fn.b y l.fn.z) (range_with_len 0 l.y))

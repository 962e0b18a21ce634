use Rattle.std.proofs.Common.{◌≡◌, filter}
use Rattle.std.specs.List.{range_with_len, flat_map}
use Rattle.samr_find.specs.Cells.{plane}
use Rattle.samr_tags.proofs.cells.tagged_in.Given as goal

abbrev pub invariant-loop-z : goal.invariant-loop-z
invariant-loop-z g l = l.out.items ≡ filter (g.T.Given.is_tagged l.fn.given l.fn.level l.fn.step) (flat_map (λ z. plane l.fn.b z) (range_with_len 0 l.z))

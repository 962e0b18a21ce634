use Rattle.std.proofs.Common.{◌≡◌, take, map, filter}
use Rattle.samr_tags.specs.CoverRow.{below_head, is_below}
use Rattle.samr_tags.proofs.needs.all_needs.Given as goal

abbrev pub invariant-loop-e : goal.invariant-loop-e
invariant-loop-e l = l.all.items ≡ map (λ e. below_head l.needs e) (filter (λ e. is_below l.needs l.rank e) (take l.e-index l.edges))

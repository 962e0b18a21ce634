use Rattle.std.proofs.Common.{◌≡◌, ◌++◌, take}
use Rattle.std.specs.List.{flat_map}
use Rattle.samr_bridge.specs.Search.{pair_of}
use Rattle.samr_bridge.proofs.pairs.push_pairs.Given as goal

abbrev pub invariant-loop-b : goal.invariant-loop-b
invariant-loop-b l = l.out.items ≡ l.fn.out.items ++ flat_map (λ b. pair_of l.ruler l.fn.a b) (take l.b-index l.to_west)

use Rattle.std.proofs.Common.{◌≡◌, take}
use Rattle.std.specs.List.{flat_map}
use Rattle.samr_bridge.specs.Search.{pair_of}
use Rattle.samr_bridge.proofs.pairs.compared.Given as goal

abbrev pub invariant-loop-a : goal.invariant-loop-a
invariant-loop-a l = l.out.items ≡ flat_map (λ a. flat_map (λ b. pair_of l.ruler a b) l.to_west) (take l.a-index l.to_east)

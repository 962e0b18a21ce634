use Rattle.std.proofs.Common.{◌≡◌, ◌++◌, take}
use Rattle.std.specs.List.{flat_map}
use Rattle.samr_bridge.specs.Search.{pair_at}
use Rattle.samr_bridge.proofs.search.Search.push_places.Given as goal

abbrev pub invariant-loop-place : goal.invariant-loop-place
invariant-loop-place l = l.out.items ≡ l.fn.out.items ++ flat_map (λ place. pair_at l.self.ruler l.self.to_west.now l.fn.a place) (take l.place-index l.places)

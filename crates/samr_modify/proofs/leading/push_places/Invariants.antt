use Rattle.std.proofs.Common.{◌≡◌, ◌++◌, take}
use Rattle.std.specs.List.{flat_map}
use Rattle.samr_modify.specs.Found.{at_place, led}
use Rattle.samr_modify.proofs.leading.push_places.Given as goal

abbrev pub invariant-loop-place : goal.invariant-loop-place
invariant-loop-place l = l.out.items ≡ l.fn.out.items ++ flat_map (λ place. at_place (λ r. led l.ruler l.fn.e r) l.known place) (take l.place-index l.places)

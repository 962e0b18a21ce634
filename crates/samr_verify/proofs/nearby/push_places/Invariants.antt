use Rattle.std.proofs.Common.{◌≡◌, ◌++◌, take}
use Rattle.std.specs.List.{flat_map}
use Rattle.samr_verify.specs.Nearby.{at_place, edges_between}
use Rattle.samr_verify.proofs.nearby.push_places.Given as goal

abbrev pub invariant-loop-place : goal.invariant-loop-place
invariant-loop-place l = l.out.items ≡ l.fn.out.items ++ flat_map (λ place. at_place (λ b. edges_between l.ruler l.shifts l.fn.a b) l.heads place) (take l.place-index l.places)

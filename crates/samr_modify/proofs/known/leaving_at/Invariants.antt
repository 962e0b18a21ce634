use Rattle.std.proofs.Common.{◌≡◌, take}
use Rattle.std.specs.List.{flat_map}
use Rattle.samr_modify.specs.Found.{at_place, if_leaves}
use Rattle.samr_modify.proofs.known.leaving_at.Given as goal

abbrev pub invariant-loop-place : goal.invariant-loop-place
invariant-loop-place l = l.out.items ≡ flat_map (λ place. at_place (λ e. if_leaves l.b e) l.edges place) (take l.place-index l.places)

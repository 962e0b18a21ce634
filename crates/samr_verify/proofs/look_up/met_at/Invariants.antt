use Rattle.std.proofs.Common.{◌≡◌, take}
use Rattle.std.specs.List.{flat_map}
use Rattle.samr_verify.specs.Nearby.{at_place, if_meets}
use Rattle.samr_verify.proofs.look_up.met_at.Given as goal

abbrev pub invariant-loop-place : goal.invariant-loop-place
invariant-loop-place l = l.out.items ≡ flat_map (λ place. at_place (λ a. if_meets l.fn.b a) l.boxes place) (take l.place-index l.places)

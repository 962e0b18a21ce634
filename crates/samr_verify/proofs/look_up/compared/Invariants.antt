use Rattle.std.proofs.Common.{◌≡◌, take}
use Rattle.samr_box.specs.Corners.{meets}
use Rattle.samr_find.specs.Places.{places_of}
use Rattle.samr_verify.proofs.look_up.compared.Given as goal

abbrev pub invariant-loop-place : goal.invariant-loop-place
invariant-loop-place l = l.places.items ≡ places_of (λ a. meets a l.b) (take l.place l.boxes)

use Rattle.std.proofs.Common.{◌≡◌, false, take}
use Rattle.std.specs.List.{list_any}
use Rattle.samr_rounds.specs.Near.{meets_an_image}
use Rattle.samr_rounds.proofs.near.is_near.Given as goal

abbrev pub invariant-loop-b : goal.invariant-loop-b
invariant-loop-b l = list_any (λ b. meets_an_image l.frame l.width l.node b) (take l.b-index l.boxes) ≡ false

use Rattle.std.proofs.Common.{◌≡◌, map}
use Rattle.std.specs.List.{range_with_len}
use Rattle.samr_sign.specs.Counts.{slice, tally}
use Rattle.samr_sign.specs.Fields.{tagged_in}
use Rattle.samr_sign.proofs.signature.planes_of.Given as goal

abbrev pub invariant-loop-place : goal.invariant-loop-place
invariant-loop-place l = l.counts.items ≡ map (λ p. tally (tagged_in l.fields) (slice l.axis l.bx p)) (range_with_len 0 l.place)

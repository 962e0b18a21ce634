use Rattle.std.proofs.Common.{◌≡◌, take, map}
use Rattle.samr_cluster.proofs.signing.boxes_of.Given as goal

abbrev pub invariant-loop-f : goal.invariant-loop-f
invariant-loop-f l = l.boxes.items ≡ map (λ f. f.bx) (take l.f-index l.fields)

use Rattle.std.proofs.Common.{◌≡◌, take, map}
use Rattle.samr_modify.proofs.leading.olds_of.Given as goal

abbrev pub invariant-loop-r : goal.invariant-loop-r
invariant-loop-r l = l.olds.items ≡ map (λ r. r.old.bx) (take l.r-index l.known)

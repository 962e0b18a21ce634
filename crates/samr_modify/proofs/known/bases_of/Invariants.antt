use Rattle.std.proofs.Common.{◌≡◌, take, map}
use Rattle.samr_modify.proofs.known.bases_of.Given as goal

abbrev pub invariant-loop-e : goal.invariant-loop-e
invariant-loop-e l = l.bases.items ≡ map (λ e. e.base.bx) (take l.e-index l.edges)

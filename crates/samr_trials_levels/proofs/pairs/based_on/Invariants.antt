use Rattle.std.proofs.Common.{◌≡◌, take, filter, nat_eq}
use Rattle.samr_trials_levels.proofs.pairs.based_on.Given as goal

abbrev pub invariant-loop-e : goal.invariant-loop-e
invariant-loop-e l = l.kept.items ≡ filter (λ e. nat_eq e.base.owner l.rank) (take l.e-index l.edges)

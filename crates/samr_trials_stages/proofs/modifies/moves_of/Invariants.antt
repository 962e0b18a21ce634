use Rattle.std.proofs.Common.{◌≡◌, take, filter, nat_eq}
use Rattle.samr_trials_stages.proofs.modifies.moves_of.Given as goal

abbrev pub invariant-loop-m : goal.invariant-loop-m
invariant-loop-m l = l.kept.items ≡ filter (λ m. nat_eq m.old.owner l.rank) (take l.m-index l.moves)

use Rattle.std.proofs.Common.{◌≡◌, take, filter, nat_eq}
use Rattle.samr_tags.proofs.seen.told_to.Given as goal

abbrev pub invariant-loop-one : goal.invariant-loop-one
invariant-loop-one l = l.told.items ≡ filter (λ one. nat_eq one.edge.head.owner l.rank) (take l.one-index l.list)

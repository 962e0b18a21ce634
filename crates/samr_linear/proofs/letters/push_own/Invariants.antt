use Rattle.std.proofs.Common.{◌≡◌, ◌++◌, take, filter, nat_eq}
use Rattle.samr_linear.proofs.letters.push_own.Given as goal

abbrev pub invariant-loop-q : goal.invariant-loop-q
invariant-loop-q l = l.out.items ≡ l.fn.out.items ++ filter (λ q. nat_eq q.edge.head.owner l.rank) (take l.q-index l.requests)

use Rattle.std.proofs.Common.{◌≡◌, ◌++◌, take, map, filter, not, nat_eq}
use Rattle.samr_peers.proofs.owners.push_owners.Given as goal

abbrev pub invariant-loop-e : goal.invariant-loop-e
invariant-loop-e l = l.owners.items ≡ l.fn.owners.items ++ filter (λ r. not (nat_eq r l.rank)) (map (λ e. e.head.owner) (take l.e-index l.edges))

use Rattle.std.proofs.Common.{◌≡◌, take, map, filter, not, nat_eq}
use Rattle.samr_cluster.proofs.addressees.owners_of.Given as goal

abbrev pub invariant-loop-a : goal.invariant-loop-a
invariant-loop-a l = l.owners.items ≡ filter (λ r. not (nat_eq r l.rank)) (map (λ a. a.owner) (take l.a-index l.accepted))

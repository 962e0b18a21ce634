use Rattle.std.proofs.Common.{◌≡◌, ◌++◌, take, filter, not, nat_eq}
use Rattle.samr_cluster.proofs.addressees.push_others.Given as goal

abbrev pub invariant-loop-r : goal.invariant-loop-r
invariant-loop-r l = l.others.items ≡ l.fn.others.items ++ filter (λ r. not (nat_eq r l.rank)) (take l.r-index l.ranks)

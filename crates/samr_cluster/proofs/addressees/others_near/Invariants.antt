use Rattle.std.proofs.Common.{◌≡◌, take, filter, not, nat_eq}
use Rattle.std.specs.List.{flat_map}
use Rattle.samr_cluster.proofs.addressees.others_near.Given as goal

abbrev pub invariant-loop-j : goal.invariant-loop-j
invariant-loop-j l = l.near.items ≡ flat_map (λ j. filter (λ r. not (nat_eq r l.rank)) j.near) (take l.j-index l.judged)

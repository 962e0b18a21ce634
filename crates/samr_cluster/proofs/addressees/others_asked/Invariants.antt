use Rattle.std.proofs.Common.{◌≡◌, take, filter, not, nat_eq}
use Rattle.std.specs.List.{flat_map}
use Rattle.samr_cluster.proofs.addressees.others_asked.Given as goal

abbrev pub invariant-loop-p : goal.invariant-loop-p
invariant-loop-p l = l.asked.items ≡ flat_map (λ p. filter (λ r. not (nat_eq r l.rank)) p.asked) (take l.p-index l.directed)

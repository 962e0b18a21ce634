use Rattle.std.proofs.Common.{◌≡◌, take, map, filter, not, nat_eq}
use Rattle.samr_cluster.proofs.addressees.other_directors.Given as goal

abbrev pub invariant-loop-t : goal.invariant-loop-t
invariant-loop-t l = l.directors.items ≡ filter (λ r. not (nat_eq r l.rank)) (map (λ t. t.director) (take l.t-index l.told))

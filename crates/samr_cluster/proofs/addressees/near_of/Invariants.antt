use Rattle.std.proofs.Common.{◌≡◌, take, filter, not, nat_eq, []}
use Rattle.std.specs.Prelude.{if◌then◌else◌}
use Rattle.std.specs.List.{flat_map}
use Rattle.samr_cluster.proofs.addressees.near_of.Given as goal

abbrev pub invariant-loop-a : goal.invariant-loop-a
invariant-loop-a l = l.near.items ≡ flat_map (λ a. if nat_eq a.owner l.rank then filter (λ r. not (nat_eq r l.rank)) a.near else []) (take l.a-index l.accepted)

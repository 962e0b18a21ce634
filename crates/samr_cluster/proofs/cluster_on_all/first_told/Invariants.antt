use Rattle.std.proofs.Common.{◌≡◌, ◌++◌, not, nat_eq, []}
use Rattle.std.specs.Prelude.{if◌then◌else◌}
use Rattle.std.specs.List.{flat_map, range_with_len}
use Rattle.samr_rounds.specs.Rounds.{directed}
use Rattle.samr_cluster.specs.Rounds.{from_director}
use Rattle.samr_cluster.proofs.cluster_on_all.first_told.Given as goal

abbrev pub invariant-loop-director : goal.invariant-loop-director
invariant-loop-director l =
    l.told.items
    ≡ from_director l.rank (directed l.ranks l.rank l.roots) ++ flat_map (λ d. if not (nat_eq d l.rank) then from_director d (directed l.ranks d l.roots) else []) (range_with_len 0 l.director)

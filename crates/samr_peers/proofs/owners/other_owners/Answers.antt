use Rattle.std.proofs.Common.{ap, ◌∙◌, ◌++◌, map, filter, not, nat_eq}
use Rattle.std.proofs.lemmas.Cmp.{nat_cmp_total}
use Rattle.std.proofs.lemmas.List.Filters.{dedup_is}
use Rattle.std.specs.Cmp.{unsigned_ties}
use Rattle.std.specs.Ordering.{nat_cmp}
use Rattle.std.specs.Prelude.{ℕ, Bool, List}
use Rattle.samr_level.specs.Refs.{Link}
use Rattle.samr_level.specs.RefOrders.{in_order}
use Rattle.samr_level.proofs.Sorting.{settled_is}
use Rattle.samr_level.proofs.RefLaws.{same_nat}
use Rattle.samr_peers.specs.Peers.{other_owners}
use Rattle.samr_peers.proofs.owners.other_owners.Goals as goal

pub returns : goal.returns
unfolding other_owners
returns c =
    let other : ℕ → Bool = λ r. not (nat_eq r c.args.rank) in
    dedup_is nat_eq _ _ c.dedup.ensures.filtered
    ∙ settled_is nat_cmp_total same_nat nat_eq unsigned_ties _ _ c.sort_unstable.ensures.permutation c.sort_unstable.ensures.sorted
    ∙ ap (in_order nat_cmp)
    (c.in_ok-push_owners.ensures
    ∙ ap (λ (l : List ℕ). l ++ filter other (map (λ (e : Link). e.head.owner) c.args.edges.now)) c.new-owners.ensures.items)

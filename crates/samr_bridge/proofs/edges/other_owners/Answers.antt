use Rattle.std.proofs.Common.{ap, sym, ◌∙◌, ◌++◌, map, filter, not, nat_eq}
use Rattle.std.proofs.lemmas.Cmp.{nat_cmp_total}
use Rattle.std.proofs.lemmas.List.Filters.{dedup_is}
use Rattle.std.specs.Cmp.{unsigned_ties}
use Rattle.std.specs.Ordering.{nat_cmp}
use Rattle.std.specs.Prelude.{ℕ, Bool, List}
use Rattle.samr_level.specs.Refs.{Link}
use Rattle.samr_level.specs.RefOrders.{in_order}
use Rattle.samr_level.proofs.Sorting.{settled_is}
use Rattle.samr_level.proofs.RefLaws.{same_nat}
use Rattle.samr_level.proofs.Steps.{map_append, filter_append}
use Rattle.samr_bridge.specs.BridgeRow.{other_owners}
use Rattle.samr_bridge.proofs.edges.other_owners.Goals as goal

pub returns : goal.returns
unfolding other_owners
returns c =
    let owner : Link → ℕ = λ e. e.head.owner in
    let other : ℕ → Bool = λ r. not (nat_eq r c.args.rank) in
    let first = c.args.first.now in
    let second = c.args.second.now in
    dedup_is nat_eq _ _ c.dedup.ensures.filtered
    ∙ settled_is nat_cmp_total same_nat nat_eq unsigned_ties _ _ c.sort_unstable.ensures.permutation c.sort_unstable.ensures.sorted
    ∙ ap (in_order nat_cmp)
    (c.in_ok-push_owners-2.ensures
    ∙ ap (λ (l : List ℕ). l ++ filter other (map owner second)) c.in_ok-push_owners.ensures
    ∙ ap (λ (l : List ℕ). (l ++ filter other (map owner first)) ++ filter other (map owner second)) c.new-owners.ensures.items
    ∙ sym (filter_append other (map owner first) (map owner second))
    ∙ ap (filter other) (sym (map_append owner first second)))

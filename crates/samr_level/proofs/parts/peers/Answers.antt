use Rattle.std.proofs.Common.{ap, sym, ◌∙◌, ◌++◌, map, filter, not, nat_eq}
use Rattle.std.proofs.lemmas.Cmp.{nat_cmp_total}
use Rattle.std.proofs.lemmas.List.Filters.{dedup_is}
use Rattle.std.specs.Cmp.{unsigned_ties}
use Rattle.std.specs.Ordering.{nat_cmp}
use Rattle.std.specs.Prelude.{ℕ, Bool, List}
use Rattle.samr_level.specs.Refs.{Link}
use Rattle.samr_level.specs.RefOrders.{in_order}
use Rattle.samr_level.proofs.Sorting.{settled_is}
use Rattle.samr_level.proofs.RefLaws.{same_nat}
use Rattle.samr_level.proofs.Steps.{map_append, filter_append}
use Rattle.samr_level.proofs.parts.peers.Goals as goal

pub returns : goal.returns
returns c =
    let owner : Link → ℕ = λ e. e.head.owner in
    let other : ℕ → Bool = λ r. not (nat_eq r c.args.rank) in
    let forth = c.args.p.now.forth.edges in
    let back = c.args.p.now.back.edges in
    dedup_is nat_eq _ _ c.dedup.ensures.filtered
    ∙ settled_is nat_cmp_total same_nat nat_eq unsigned_ties _ _ c.sort_unstable.ensures.permutation c.sort_unstable.ensures.sorted
    ∙ ap (in_order nat_cmp)
    (c.in_ok-push_owners-2.ensures
    ∙ ap (λ (l : List ℕ). l ++ filter other (map owner c.as_slice-2.result.now)) c.in_ok-push_owners.ensures
    ∙ ap (λ (l : List ℕ). (l ++ filter other (map owner c.as_slice.result.now)) ++ filter other (map owner c.as_slice-2.result.now)) c.new-owners.ensures.items
    ∙ ap (λ (l : List Link). filter other (map owner l) ++ filter other (map owner c.as_slice-2.result.now)) c.as_slice.ensures
    ∙ ap (λ (l : List Link). filter other (map owner forth) ++ filter other (map owner l)) c.as_slice-2.ensures
    ∙ sym (filter_append other (map owner forth) (map owner back))
    ∙ ap (filter other) (sym (map_append owner forth back)))

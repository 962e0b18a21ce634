use Rattle.std.proofs.Common.{ap, ◌∙◌, ◌++◌, nat_eq}
use Rattle.std.proofs.lemmas.Cmp.{nat_cmp_total}
use Rattle.std.proofs.lemmas.List.Filters.{dedup_is}
use Rattle.std.specs.Cmp.{unsigned_ties}
use Rattle.std.specs.Ordering.{nat_cmp}
use Rattle.std.specs.Prelude.{ℕ, List}
use Rattle.samr_level.specs.RefOrders.{in_order}
use Rattle.samr_level.proofs.Sorting.{settled_is}
use Rattle.samr_level.proofs.RefLaws.{same_nat}
use Rattle.samr_fill.specs.Sending.{united}
use Rattle.samr_linear.proofs.letters.united.Goals as goal

pub returns : goal.returns
unfolding united
returns c =
    dedup_is nat_eq _ _ c.dedup.ensures.filtered
    ∙ settled_is nat_cmp_total same_nat nat_eq unsigned_ties _ _ c.sort_unstable.ensures.permutation c.sort_unstable.ensures.sorted
    ∙ ap (in_order nat_cmp) (c.in_ok-extend_from_slice.ensures.items ∙ ap (λ (l : List ℕ). l ++ c.args.others.now) c.in_ok-all.ensures.items)

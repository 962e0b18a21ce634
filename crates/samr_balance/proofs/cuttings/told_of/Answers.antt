use Rattle.std.proofs.Common.{ap, ◌∙◌}
use Rattle.samr_load.specs.Pieces.{sorted}
use Rattle.samr_load.proofs.Sorts.{sort_is}
use Rattle.samr_balance.specs.HomeRow.{cutting_cmp, told_of}
use Rattle.samr_balance.proofs.CuttingOrder.{cutting_total, same_from_cutting_cmp}
use Rattle.samr_balance.proofs.cuttings.told_of.Goals as goal

pub returns : goal.returns
unfolding told_of
returns c =
    sort_is cutting_cmp cutting_total same_from_cutting_cmp _ _ c.sort_unstable.ensures.permutation c.sort_unstable.ensures.sorted ∙ ap (sorted cutting_cmp) c.in_ok-list.ensures

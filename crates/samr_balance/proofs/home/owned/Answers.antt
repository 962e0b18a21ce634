use Rattle.std.proofs.Common.{ap, ◌∙◌}
use Rattle.samr_level.specs.RefOrders.{ref_cmp}
use Rattle.samr_level.proofs.RefLaws.{ref_total, same_from_ref_cmp}
use Rattle.samr_load.specs.Pieces.{sorted}
use Rattle.samr_load.proofs.Sorts.{sort_is}
use Rattle.samr_balance.proofs.home.owned.Goals as goal

pub returns : goal.returns
returns c =
    sort_is ref_cmp ref_total same_from_ref_cmp _ _ c.sort_unstable.ensures.permutation c.sort_unstable.ensures.sorted ∙ ap (sorted ref_cmp) c.in_ok-olds.ensures

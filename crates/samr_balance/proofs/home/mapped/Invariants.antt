use Rattle.std.proofs.Common.{◌≡◌, take, ◌++◌, map}
use Rattle.std.specs.List.{flat_map}
use Rattle.samr_level.specs.RefOrders.{ref_cmp}
use Rattle.samr_load.specs.Pieces.{sorted}
use Rattle.samr_balance.specs.HomeRow.{kept_on, told_on}
use Rattle.samr_balance.proofs.home.mapped.Given as goal

abbrev pub invariant-loop-old : goal.invariant-loop-old
invariant-loop-old l = l.entries.items ≡ map (λ old. record { old = old; news = sorted ref_cmp (kept_on old l.rank l.pieces ++ flat_map (λ letter. told_on old letter.sender letter.body) l.held) }) (take l.old-index l.olds)

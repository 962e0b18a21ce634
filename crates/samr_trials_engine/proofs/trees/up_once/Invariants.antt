use Rattle.std.proofs.Common.{◌≡◌, ℕ, length, Some, slice_get}
use Rattle.samr_tree.specs.declared.sum_up.SumUp.{SumUp}
use Rattle.samr_tree.specs.SumUp.{IsSum}
use Rattle.samr_tree.specs.TreeSum.{sums_at}
use Rattle.samr_trials_engine.proofs.trees.up_once.Given as goal

abbrev pub invariant-each : goal.invariant-each
invariant-each l =
    (length l.stages.items ≡ l.rank) × ((k : ℕ) (s : SumUp) → slice_get l.stages.items k ≡ Some s → IsSum s.rank s.ranks s.round s.number (sums_at l.values l.fn.round) k)

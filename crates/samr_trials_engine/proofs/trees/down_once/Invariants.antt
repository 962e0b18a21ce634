use Rattle.std.proofs.Common.{◌≡◌, ℕ, length, get_or, Some, slice_get}
use Rattle.samr_tree.specs.declared.tell_down.TellDown.{TellDown}
use Rattle.samr_tree.specs.TellDown.{IsTelling}
use Rattle.samr_trials_engine.proofs.trees.down_once.Given as goal

abbrev pub invariant-each : goal.invariant-each
invariant-each l =
    (length l.stages.items ≡ l.rank) × ((k : ℕ) (s : TellDown) → slice_get l.stages.items k ≡ Some s → IsTelling s.rank s.ranks s.round s.number (record { ranks = length l.numbers; round = l.fn.round; number = λ r. get_or l.numbers r 0 }) k)

use Rattle.std.proofs.Common.{◌≡◌, ℕ, length, Some, slice_get}
use Rattle.samr_tree.specs.declared.tell_down.TellDown.{TellDown}
use Rattle.samr_tree.specs.TellDown.{IsTelling}
use Rattle.samr_tree.specs.TreeSum.{tellings_at}
use Rattle.samr_tree.proofs.on_all.go_down_once.Given as goal

abbrev pub invariant-each : goal.invariant-each
invariant-each l =
    (length l.stages.items ≡ l.rank) × ((k : ℕ) (s : TellDown) → slice_get l.stages.items k ≡ Some s → IsTelling s.rank s.ranks s.round s.number (tellings_at l.values l.fn.round) k)

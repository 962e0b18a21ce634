use Rattle.std.proofs.Common.{◌≡◌, ℕ, ◌<◌, [], Some, slice_get, All}
use Rattle.samr_stage.specs.Machine.{State}
use Rattle.samr_world.specs.Events.{CanTurn, IsEnabled, IsUsual}
use Rattle.samr_world.specs.Traffic.{shape_of}
use Rattle.samr_world.proofs.traffic.Traffic.turns.Given as goal

abbrev pub invariant-loop-machine : goal.invariant-loop-machine
invariant-loop-machine g l = record {
  usual : All IsUsual l.turns.items;
  enabled : All (IsEnabled g.P.Program g.P.Mail.Mail (shape_of l.self)) l.turns.items;
  none : l.turns.items ≡ [] → (rank : ℕ) (s : State g.row.P.Denot g.row.P-Mail.Denot) → rank < l.machine-index → slice_get l.self.machines.items rank ≡ Some s → ¬ CanTurn g.P.Program g.P.Mail.Mail s;
}

use Rattle.std.proofs.Common.{◌≡◌, ℕ, ◌<◌, Some, slice_get}
use Rattle.samr_stage.specs.Machine.{State}
use Rattle.samr_world.specs.Events.{CanTurn}
use Rattle.samr_world.proofs.traffic.Traffic.next_event.Given as goal

abbrev pub invariant-loop-machine : goal.invariant-loop-machine
invariant-loop-machine g l = (rank : ℕ) (s : State g.row.P.Denot g.row.P-Mail.Denot) → rank < l.machine-index → slice_get l.self.machines.items rank ≡ Some s → ¬ CanTurn g.P.Program g.P.Mail.Mail s

use Rattle.std.proofs.Common.{◌≡◌, ℕ, length, Some, slice_get}
use Rattle.std.specs.Arc.{arc_value}
use Rattle.samr_relay.specs.declared.relay.Relay.{Relay}
use Rattle.samr_relay.specs.contracts.relay.RelayProgram.TheImpl as program
use Rattle.samr_relay.specs.contracts.mail.RelayMailMail.TheImpl as letter
use Rattle.samr_world.specs.World.{IsFresh}
use Rattle.samr_bench.proofs.teams.relay_team.Given as goal

abbrev pub invariant-each : goal.invariant-each
invariant-each l =
    (arc_value l.shared ≡ l.fn.run) × (length l.team.items ≡ l.rank) × ((k : ℕ) (p : Relay) → slice_get l.team.items k ≡ Some p → IsFresh program.ghosts letter.ghosts l.fn.run k p)

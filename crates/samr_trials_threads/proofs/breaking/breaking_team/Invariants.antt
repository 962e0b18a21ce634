use Rattle.std.proofs.Common.{◌≡◌, ℕ, length, Some, slice_get}
use Rattle.std.specs.Arc.{arc_value}
use Rattle.samr_trials_threads.specs.declared.breaking.Breaking.{Breaking}
use Rattle.samr_trials_threads.specs.contracts.breaking.BreakingProgram.TheImpl as program
use Rattle.samr_tree.specs.contracts.sum_mail.SumMailMail.TheImpl as letter
use Rattle.samr_world.specs.World.{IsFresh}
use Rattle.samr_trials_threads.proofs.breaking.breaking_team.Given as goal

abbrev pub invariant-each : goal.invariant-each
invariant-each l =
    ((arc_value l.run).items ≡ l.fn.values.items) × (length l.team.items ≡ l.rank) × ((k : ℕ) (p : Breaking) → slice_get l.team.items k ≡ Some p → IsFresh program.ghosts letter.ghosts l.fn.values.items k p)

use Rattle.std.proofs.Common.{◌≡◌, ℕ, length, Some, slice_get}
use Rattle.std.specs.Arc.{arc_value}
use Rattle.samr_tree.specs.declared.tree_sum.TreeSum.{TreeSum}
use Rattle.samr_tree.specs.contracts.tree_sum.TreeSumProgram.TheImpl as program
use Rattle.samr_tree.specs.contracts.sum_mail.SumMailMail.TheImpl as letter
use Rattle.samr_world.specs.World.{IsFresh}
use Rattle.samr_bench.proofs.teams.tree_team.Given as goal

abbrev pub invariant-each : goal.invariant-each
invariant-each l =
    ((arc_value l.run).items ≡ l.fn.values.items) × (length l.team.items ≡ l.rank) × ((k : ℕ) (p : TreeSum) → slice_get l.team.items k ≡ Some p → IsFresh program.ghosts letter.ghosts l.fn.values.items k p)

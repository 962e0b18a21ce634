use Rattle.std.proofs.Common.{◌≡◌, take}
use Rattle.std.specs.List.{All}
use Rattle.samr_ops.specs.Rules.{IsRules}
use Rattle.samr_trials_levels.proofs.premises.rules_of.Given as goal

abbrev pub invariant-loop-strategy : goal.invariant-loop-strategy
invariant-loop-strategy g l = (l.list.items ≡ take l.strategy-index l.strategies) × All IsRules l.list.items

use Rattle.std.proofs.Common.{take, map}
use Rattle.std.specs.List.{All}
use Rattle.samr_box.specs.Lists.{Member}
use Rattle.samr_values.proofs.tests.all_start.Given as goal

abbrev pub invariant-loop-e : goal.invariant-loop-e
invariant-loop-e l = All (λ e. Member e.base.bx (map (λ p. p.bx) l.patches)) (take l.e-index l.edges)

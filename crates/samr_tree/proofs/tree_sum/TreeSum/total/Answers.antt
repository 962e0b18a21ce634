use Rattle.std.proofs.Common.{ap, ◌∙◌, sum}
use Rattle.samr_tree.proofs.Seating.{all_values}
use Rattle.samr_tree.proofs.tree_sum.TreeSum.total.Goals as goal

pub returns-in-Some-clause-total : goal.returns-in-Some-clause-total
returns-in-Some-clause-total c = λ entered stands. c.in-Some.ensures.given entered stands ∙ ap sum (all_values _)

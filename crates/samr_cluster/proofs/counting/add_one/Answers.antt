use Rattle.std.proofs.Common.{ap, ◌∙◌}
use Rattle.samr_sign.specs.Counts.{total}
use Rattle.samr_cluster.proofs.CountLaws.{total_sum}
use Rattle.samr_cluster.proofs.counting.add_one.Goals as goal

pub returns-clause-total : goal.returns-clause-total
returns-clause-total c = ap total c.add.ensures ∙ total_sum c.args.sum.now c.args.s.now c.bx.ensures.sign c.bx-2.ensures.sign c.requires.same

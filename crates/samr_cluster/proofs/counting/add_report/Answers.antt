use Rattle.std.proofs.Common.{sym, ◌∙◌}
use Rattle.samr_cluster.proofs.CountLaws.{found_box}
use Rattle.samr_cluster.proofs.counting.add_report.Goals as goal

pub add_one-requires-clause-same : goal.add_one-requires-clause-same
add_one-requires-clause-same c = c.requires.same ∙ sym (found_box c.args.node c.args.signs.now c.in-Some.s.now (sym c.in-Some.ensures))

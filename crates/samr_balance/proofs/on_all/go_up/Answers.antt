use Rattle.std.proofs.Common.{arith, ◌-◌}
use Rattle.samr_tree.proofs.TreeLemmas.{depth-le}
use Rattle.samr_balance.proofs.on_all.go_up.Goals as goal

pub overflow_add-round-end : goal.overflow_add-round-end
overflow_add-round-end c = omega (arith, depth-le (c.args.plan.now.ranks - 1), c.depth-round-end.ensures)

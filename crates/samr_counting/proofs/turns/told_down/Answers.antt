use Rattle.std.proofs.Common.{◌-◌, arith, ◌∙◌, ap, nat_eq}
use Rattle.samr_tree.proofs.TreeLemmas.{depth_up, told_at}
use Rattle.samr_counting.proofs.turns.told_down.Goals as goal

pub overflow_sub-result : goal.overflow_sub-result
overflow_sub-result c = omega (arith, depth_up c.args.rank c.if-rank-gt0.true, c.depth.ensures)

pub returns-then-rank-gt0 : goal.returns-then-rank-gt0
returns-then-rank-gt0 c =
    ap (λ d. nat_eq (d - 1) c.args.round) c.depth.ensures ∙ told_at c.args.ranks c.args.round c.args.rank c.if-rank-gt0.true c.requires

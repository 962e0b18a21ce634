use Rattle.std.proofs.Common.{arith, ap}
use Rattle.samr_tree.specs.Tree.{depth}
use Rattle.samr_tree.proofs.TreeLemmas.{depth_root, depth_up, depth-le, parent-some, parent-none}
use Rattle.samr_tree.proofs.tree.depth.Goals as goal

pub overflow_add-steps : goal.overflow_add-steps
overflow_add-steps c =
    let above = parent-some c.up.at c.in-Some.above c.in-Some.ensures in
    omega (arith, depth_up c.up.at above.0, depth-le c.args.rank, c.up.invariant.0)

pub up-preserved : goal.up-preserved
up-preserved c =
    let above = parent-some c.up.at c.in-Some.above c.in-Some.ensures in
    (omega (arith, depth_up c.up.at above.0, ap depth above.1, c.up.invariant.0), omega (arith, above.1, c.up.invariant.1))

pub returns : goal.returns
returns c =
    omega (arith, ap depth (parent-none c.up.at c.in_default.ensures), depth_root, c.up.invariant.0)

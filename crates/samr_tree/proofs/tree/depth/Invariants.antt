use Rattle.std.proofs.Common.{◌≡◌, ◌+◌, ◌≤◌}
use Rattle.samr_tree.specs.Tree.{depth}
use Rattle.samr_tree.proofs.tree.depth.Given as goal

abbrev pub invariant-up : goal.invariant-up
invariant-up l = (l.steps + depth l.at ≡ depth l.rank) × (l.at ≤ l.rank)

abbrev pub decreases-up : goal.decreases-up
decreases-up l = l.at

use Rattle.std.proofs.Common.{◌-◌, arith, length}
use Rattle.samr_tree.proofs.TreeLemmas.{depth-le}
use Rattle.samr_tree.proofs.OnAllLemmas.{own_numbers}
use Rattle.samr_tree.proofs.on_all.go_up.Goals as goal

pub overflow_add-round-end : goal.overflow_add-round-end
overflow_add-round-end c =
    omega (arith, depth-le (length c.args.values.now - 1), c.height-round-end.ensures.bottom)

pub each-init : goal.each-init
each-init c =
    own_numbers c.args.values.now c.in_ok-numbers.numbers.items (c.in_ok-numbers.ensures.items_if_clones_equal (λ x y e. e))

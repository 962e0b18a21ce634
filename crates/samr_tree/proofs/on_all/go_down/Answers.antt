use Rattle.std.proofs.Common.{arith}
use Rattle.samr_tree.proofs.OnAllLemmas.{all_have}
use Rattle.samr_tree.proofs.on_all.go_down.Goals as goal

pub returns-clause-totals : goal.returns-clause-totals
returns-clause-totals c =
    all_have c.args.values.now c.each.round c.each.numbers.items (omega (arith, c.height-round-end.ensures.bottom, c.each-test.false, c.each.auto.round-end)) c.each.invariant

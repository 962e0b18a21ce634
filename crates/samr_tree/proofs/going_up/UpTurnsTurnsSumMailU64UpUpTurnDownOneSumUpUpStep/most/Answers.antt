use Rattle.std.proofs.Common.{arith}
use Rattle.samr_tree.proofs.Seating.{height_small}
use Rattle.samr_tree.proofs.going_up.UpTurnsTurnsSumMailU64UpUpTurnDownOneSumUpUpStep.most.Goals as goal

pub overflow_add-result : goal.overflow_add-result
overflow_add-result c =
    let w = c.requires.0 in
    let seat = c.requires.2.0 in
    let small = height_small c.args.now.now.seat.ranks w.values seat.same_ranks seat.summable.few in
    omega (arith, small, c.height.ensures.bottom)

use Rattle.std.proofs.Common.{arith, sym, ◌∙◌}
use Rattle.samr_tree.specs.TreeSum.{rounds_down}
use Rattle.samr_tree.proofs.Seating.{next_seat, down_small}
use Rattle.samr_tree.proofs.TreeTotals.{stays_down}
use Rattle.samr_tree.proofs.going_down.DownStepStepSumMailU64DownTurnDownTellDown.skip.Goals as goal

pub next-requires : goal.next-requires
next-requires c =
    let w = c.requires.0 in
    let seat = c.args.input.seat in
    omega (arith, down_small seat.rank seat.ranks seat.round w c.requires.1 c.requires.2.0)

pub returns-clause-after : goal.returns-clause-after
returns-clause-after c = λ w rank holds silent.
    let seat = c.args.input.seat in
    (next_seat seat.rank seat.ranks seat.round w rank (rounds_down w.values) _ _ _ holds.0 c.next.ensures.rank c.next.ensures.ranks c.next.ensures.round, holds.1 ∙ sym (stays_down w.values w.round rank silent))

use Rattle.std.proofs.Common.{arith, sym, ◌∙◌}
use Rattle.samr_tree.specs.TreeSum.{rounds_up}
use Rattle.samr_tree.proofs.Seating.{next_seat, up_small}
use Rattle.samr_tree.proofs.TreeTotals.{stays_up}
use Rattle.samr_tree.proofs.going_up.UpStepStepSumMailU64UpTurnUpSumUp.skip.Goals as goal

pub next-requires : goal.next-requires
next-requires c =
    let w = c.requires.0 in
    let seat = c.args.input.seat in
    omega (arith, up_small seat.rank seat.ranks seat.round w c.requires.1 c.requires.2.0)

pub returns-clause-after : goal.returns-clause-after
returns-clause-after c = λ w rank holds silent.
    let seat = c.args.input.seat in
    (next_seat seat.rank seat.ranks seat.round w rank (rounds_up w.values) _ _ _ holds.0 c.next.ensures.rank c.next.ensures.ranks c.next.ensures.round, holds.1 ∙ sym (stays_up w.values w.round rank silent))

use Rattle.std.proofs.Common.{arith}
use Rattle.samr_tree.proofs.Seating.{up_small}
use Rattle.samr_tree.proofs.going_up.UpStepStepSumMailU64UpTurnUpSumUp.end.Goals as goal

pub next-requires : goal.next-requires
next-requires c =
    let w = c.requires.0 in
    let seat = c.args.self.seat in
    omega (arith, up_small seat.rank seat.ranks seat.round w c.requires.1 c.requires.2)

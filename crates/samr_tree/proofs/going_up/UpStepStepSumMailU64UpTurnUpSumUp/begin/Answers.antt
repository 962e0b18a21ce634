use Rattle.std.proofs.Common.{refl}
use Rattle.samr_tree.specs.TreeSum.{sums_at, rounds_up}
use Rattle.samr_tree.specs.TreeLaws.{ranks_at}
use Rattle.samr_tree.proofs.Seating.{up_seat}
use Rattle.samr_tree.proofs.going_up.UpStepStepSumMailU64UpTurnUpSumUp.begin.Goals as goal

pub returns-clause-plays : goal.returns-clause-plays
returns-clause-plays c = λ w rank holds visits.
    let seat = c.args.input.seat in
    record {
      whole = sums_at w.values w.round;
      part = c.in_ok-stage.ensures.starts (sums_at w.values w.round) rank (up_seat seat.rank seat.ranks seat.round w rank (rounds_up w.values) c.args.input.number holds.0 holds.1);
      same_ranks = ranks_at w.values w.round;
      same_row = λ from to. refl;
      same_result = λ out is. is;
    }

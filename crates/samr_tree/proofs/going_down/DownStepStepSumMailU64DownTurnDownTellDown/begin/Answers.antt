use Rattle.std.proofs.Common.{refl}
use Rattle.samr_tree.specs.TreeSum.{tellings_at, rounds_down}
use Rattle.samr_tree.specs.TreeLaws.{told_ranks_at}
use Rattle.samr_tree.proofs.Seating.{down_seat}
use Rattle.samr_tree.proofs.going_down.DownStepStepSumMailU64DownTurnDownTellDown.begin.Goals as goal

pub returns-clause-plays : goal.returns-clause-plays
returns-clause-plays c = λ w rank holds visits.
    let seat = c.args.input.seat in
    record {
      whole = tellings_at w.values w.round;
      part = c.in_ok-stage.ensures.starts (tellings_at w.values w.round) rank (down_seat seat.rank seat.ranks seat.round w rank (rounds_down w.values) c.args.input.number holds.0 holds.1);
      same_ranks = told_ranks_at w.values w.round;
      same_row = λ from to. refl;
      same_result = λ out is. is;
    }

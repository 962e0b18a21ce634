-- A rank's part of a round, and its seat in the next.
use Rattle.std.proofs.Common.{◌≡◌, ℕ, ◌+◌, ◌-◌, ◌<◌, ◌≤◌, ◌^◌, List, length, refl, sym, ap, ◌∙◌, arith, sum}
use Rattle.samr_phase.specs.Turning.{after_turns, last}
use Rattle.samr_tree.specs.Tree.{bottom}
use Rattle.samr_tree.specs.SumUp.{IsSum}
use Rattle.samr_tree.specs.TellDown.{IsTelling}
use Rattle.samr_tree.specs.TreeSum.{rounds_up, rounds_down, sums_at, tellings_at, AreSummable}
use Rattle.samr_tree.specs.TreeLaws.{ranks_at, round_at, told_ranks_at, told_round_at}
use Rattle.samr_tree.specs.TreeParts.{Round, IsSeat, next_round}
use Rattle.samr_tree.specs.TreePhases.{up_round, down_round, ups_left, downs_left, first_round, same_values}
use Rattle.samr_tree.proofs.TreeLemmas.{depth-le}
use Rattle.samr_tree.proofs.TreeTotals.{next_at, never_more, all_after}

pub height_small : (ranks : ℕ) (values : List ℕ) → ranks ≡ length values → length values < 2 ^ 16 → bottom ranks + 1 < 2 ^ 32
height_small ranks values same few = omega (arith, depth-le (ranks - 1), same, few)

module _ (own ranks round : ℕ) (w : Round) (rank : ℕ) where
  pub next_seat : (bound own' ranks' round' : ℕ) → IsSeat bound own ranks round w rank → own' ≡ own → ranks' ≡ ranks → round' ≡ round + 1 → IsSeat (bound + 1) own' ranks' round' (next_round w) rank
  next_seat bound own' ranks' round' seat same_rank same_ranks same_round = record {
    summable = seat.summable;
    is_rank = seat.is_rank;
    same_rank = same_rank ∙ seat.same_rank;
    same_ranks = same_ranks ∙ seat.same_ranks;
    same_round = same_round ∙ ap (λ n. n + 1) seat.same_round;
    below = omega (arith, seat.below);
  }

  pub up_small : IsSeat (rounds_up w.values) own ranks round w rank → round + 1 < 2 ^ 32
  up_small seat = omega (arith, seat.below, seat.same_round, depth-le (length w.values - 1), seat.summable.few)

  pub down_small : IsSeat (rounds_down w.values) own ranks round w rank → round + 1 < 2 ^ 32
  down_small seat = omega (arith, seat.below, seat.same_round, depth-le (length w.values - 1), seat.summable.few)

  pub up_seat : (bound number : ℕ) → IsSeat bound own ranks round w rank → number ≡ (sums_at w.values w.round).number rank → IsSum own ranks round number (sums_at w.values w.round) rank
  up_seat bound number seat has = record {
    same_rank = seat.same_rank;
    same_ranks = seat.same_ranks ∙ sym (ranks_at w.values w.round);
    same_round = seat.same_round ∙ sym (round_at w.values w.round);
    same_number = has;
    within = omega (arith, seat.is_rank, seat.same_rank, seat.same_ranks);
    fits = omega (arith, next_at w.values w.round rank, never_more w.values (w.round + 1) rank seat.is_rank, seat.summable.fits);
  }

  pub down_seat : (bound number : ℕ) → IsSeat bound own ranks round w rank → number ≡ (tellings_at w.values w.round).number rank → IsTelling own ranks round number (tellings_at w.values w.round) rank
  down_seat bound number seat has = record {
    same_rank = seat.same_rank;
    same_ranks = seat.same_ranks ∙ sym (told_ranks_at w.values w.round);
    same_round = seat.same_round ∙ sym (told_round_at w.values w.round);
    same_number = has;
    within = omega (arith, seat.is_rank, seat.same_rank, seat.same_ranks);
  }

  pub down_end : (number : ℕ) → IsSeat (rounds_down w.values + 1) own ranks round w rank → number ≡ (tellings_at w.values w.round).number rank → bottom ranks ≤ round → number ≡ sum w.values
  down_end number seat has end =
      let bottoms : bottom ranks ≡ rounds_down w.values = ap bottom seat.same_ranks in
      let last : w.round ≡ rounds_down w.values = omega (arith, seat.below, seat.same_round, end, bottoms) in
      has ∙ ap (λ k. (tellings_at w.values k).number rank) last ∙ all_after w.values rank seat.is_rank

-- a rank's part of any round, from its number before it
module _ (values : List ℕ) (rank ranks round number : ℕ) (summable : AreSummable values) (is_rank : rank < length values) (count : ranks ≡ length values) where
  here : IsSeat (round + 1) rank ranks round (record { values = values; round = round }) rank
  here = record {
    summable = summable;
    is_rank = is_rank;
    same_rank = refl;
    same_ranks = count;
    same_round = refl;
    below = omega arith;
  }

  pub up_part : number ≡ (sums_at values round).number rank → IsSum rank ranks round number (sums_at values round) rank
  up_part has = up_seat rank ranks round (record { values = values; round = round }) rank (round + 1) number here has

  pub down_part : number ≡ (tellings_at values round).number rank → IsTelling rank ranks round number (tellings_at values round) rank
  down_part has = down_seat rank ranks round (record { values = values; round = round }) rank (round + 1) number here has

-- the numbers of the sum are the same after all rounds
pub all_values : (values : List ℕ) → (last down_round next_round downs_left (first_round (last up_round next_round ups_left (first_round values)).values)).values ≡ values
unfolding last
all_values values =
    let up = after_turns next_round (ups_left (first_round values)) (first_round values) in
    same_values (downs_left (first_round up.values)) (first_round up.values) ∙ same_values (ups_left (first_round values)) (first_round values)

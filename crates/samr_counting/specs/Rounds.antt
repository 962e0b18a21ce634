-- The rounds of counting what the cut leaves.
use Rattle.std.specs.Prelude.{◌≡◌, ℕ, ◌+◌, ◌<◌, List, refl}
use Rattle.std.proofs.Common.{arith, ◌∙◌}
use Rattle.samr_stage.specs.Fragments.{Fragment}
use Rattle.samr_phase.specs.Stretch.{at_one}
use Rattle.samr_phase.specs.Turning.{last, last_ranks}
use Rattle.samr_msg.specs.declared.body.Body.TheVariants.{SumUp, TellDown}
use Rattle.samr_msg.specs.Places.{AtPass, AtRound, first_round, next_round}
use Rattle.samr_msg.specs.PassStops.{sums_told, totals_told, ups_left, downs_left}
use Rattle.samr_msg.specs.WholeRun.{in_rounds, counted}

-- a round below a bound, and the rank's number before it
pub record IsRound (bound : ℕ) (numbers : ℕ → ℕ) (round number : ℕ) (w : AtRound) (r : ℕ) : Type 0 where
  pub same_round : round ≡ w.round
  pub same_number : number ≡ numbers r
  pub below : w.round < bound

-- a round that there is
pub record IsLeft (bound round : ℕ) (w : AtRound) : Type 0 where
  pub same_round : round ≡ w.round
  pub below : w.round < bound

-- each round leaves one less, and where none is left the rounds are over
pub up_fewer : (w : AtRound) → 0 < ups_left w → ups_left w ≡ ups_left (next_round w) + 1
up_fewer w some = omega (arith, some)

pub up_ends : (w : AtRound) → ups_left w ≡ 0 → 0 < ups_left w → ⊥
up_ends w none some = omega (arith, none, some)

pub down_fewer : (w : AtRound) → 0 < downs_left w → downs_left w ≡ downs_left (next_round w) + 1
down_fewer w some = omega (arith, some)

pub down_ends : (w : AtRound) → downs_left w ≡ 0 → 0 < downs_left w → ⊥
down_ends w none some = omega (arith, none, some)

-- the ranks stay through the rounds
rounds_ranks : {B : Type 0} (fragments : AtRound → List (Fragment B)) (left : AtRound → ℕ) (w : AtPass) → (last fragments next_round left (first_round w)).at.pass.ranks ≡ w.pass.ranks
rounds_ranks fragments left w = last_ranks fragments next_round (λ v. v.at.pass.ranks) (λ v. refl) left (first_round w)

pub counted_ranks : (w : AtPass) → (counted.after w).pass.ranks ≡ w.pass.ranks
counted_ranks w =
    let up = (in_rounds ups_left (at_one SumUp sums_told)).after w in
    rounds_ranks (at_one TellDown totals_told).fragments downs_left up ∙ rounds_ranks (at_one SumUp sums_told).fragments ups_left w

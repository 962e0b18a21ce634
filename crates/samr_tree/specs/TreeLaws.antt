-- The course of a sum over all ranks is one: its labels ascend, and its letters go between ranks that visit their label.
use Rattle.std.specs.Prelude.{◌≡◌, ℕ, zero, suc, ◌+◌, ◌-◌, ◌*◌, ◌/◌, ◌<◌, List, length, All, ◌⊎◌, true, nat_lt, refl}
use Rattle.std.proofs.Common.{arith, subst, inl, inr}
use Rattle.std.proofs.lemmas.Bool.{and_parts, or_left, or_right, ltb-true, cases_eq}
use Rattle.samr_stage.specs.Course.{IsCourse}
use Rattle.samr_stage.specs.Fragments.{IsRow, IsRun, IsBefore, rounds}
use Rattle.samr_stage.proofs.RunLemmas.{phase_before, round_before, IsRun-rounds, IsRun-append, All-rounds, composed_is_course}
use Rattle.samr_tree.specs.Tree.{tells_up, told_down}
use Rattle.samr_tree.specs.StageLaws.{sum_turn, sum_between, tell_turn, tell_between}
use Rattle.samr_tree.specs.TreeSum.{sums_at, tellings_at, up_fragment, down_fragment, rounds_up, rounds_down, goes_up, goes_down, tree_fragments, tree_course}

-- a rank above 0 is the first or the second child of its parent
child_of : (rank above : ℕ) → 0 < rank → (rank - 1) / 2 ≡ above → (rank ≡ 2 * above + 1) ⊎ (rank ≡ 2 * above + 2)
child_of rank above there parent = elim (cases_eq rank (2 * above + 1)) [
  | inl first ↦ inl first
  | inr other ↦ inr (omega (arith, parent, other))
]

-- a rank whose turn it is to tell visits the round, and so does its parent
pub up_teller : (ranks round rank : ℕ) → tells_up ranks round rank ≡ true → goes_up ranks round rank ≡ true
up_teller ranks round rank turn = or_left (tells_up ranks round rank) _ turn

pub up_parent : (ranks round rank above : ℕ) → tells_up ranks round rank ≡ true → (rank - 1) / 2 ≡ above → goes_up ranks round above ≡ true
up_parent ranks round rank above turn parent =
    let Tells : ℕ → Type 0 = λ k. tells_up ranks round k ≡ true in
    or_right (tells_up ranks round above) _ (elim (child_of rank above (ltb-true 0 rank (and_parts (nat_lt 0 rank) _ turn).0) parent) [
      | inl first ↦ or_left (tells_up ranks round (2 * above + 1)) _ (subst Tells first turn)
      | inr second ↦ or_right (tells_up ranks round (2 * above + 1)) _ (or_left (tells_up ranks round (2 * above + 2)) _ (subst Tells second turn))
    ])

-- a rank whose turn it is to be told visits the round, and so does its parent
pub down_told : (ranks round rank : ℕ) → told_down ranks round rank ≡ true → goes_down ranks round rank ≡ true
down_told ranks round rank turn = or_left (told_down ranks round rank) _ turn

pub down_parent : (ranks round rank above : ℕ) → told_down ranks round rank ≡ true → (rank - 1) / 2 ≡ above → goes_down ranks round above ≡ true
down_parent ranks round rank above turn parent =
    let Told : ℕ → Type 0 = λ k. told_down ranks round k ≡ true in
    or_right (told_down ranks round above) _ (elim (child_of rank above (ltb-true 0 rank (and_parts (nat_lt 0 rank) _ turn).0) parent) [
      | inl first ↦ or_left (told_down ranks round (2 * above + 1)) _ (subst Told first turn)
      | inr second ↦ or_right (told_down ranks round (2 * above + 1)) _ (subst Told second turn)
    ])

module _ (values : List ℕ) where
  pub ranks_at : (round : ℕ) → (sums_at values round).ranks ≡ length values
  ranks_at zero = refl
  ranks_at (suc round) = refl

  pub round_at : (round : ℕ) → (sums_at values round).round ≡ round
  round_at zero = refl
  round_at (suc round) = refl

  pub told_ranks_at : (round : ℕ) → (tellings_at values round).ranks ≡ length values
  told_ranks_at zero = refl
  told_ranks_at (suc round) = refl

  pub told_round_at : (round : ℕ) → (tellings_at values round).round ≡ round
  told_round_at zero = refl
  told_round_at (suc round) = refl

  turn_at : (round rank : ℕ) → tells_up (sums_at values round).ranks (sums_at values round).round rank ≡ true → tells_up (length values) round rank ≡ true
  turn_at round rank turn =
      let T : ℕ → ℕ → Type 0 = λ n k. tells_up n k rank ≡ true in
      subst (λ n. T n round) (ranks_at round) (subst (λ k. T (sums_at values round).ranks k) (round_at round) turn)

  told_turn_at : (round rank : ℕ) → told_down (tellings_at values round).ranks (tellings_at values round).round rank ≡ true → told_down (length values) round rank ≡ true
  told_turn_at round rank turn =
      let T : ℕ → ℕ → Type 0 = λ n k. told_down n k rank ≡ true in
      subst (λ n. T n round) (told_ranks_at round) (subst (λ k. T (tellings_at values round).ranks k) (told_round_at round) turn)

  up_rows : (round : ℕ) → IsRow (length values) (up_fragment values round)
  up_rows round = record {
    sender = λ from to there.
        let turn = sum_turn (sums_at values round) from to there in
        let between = sum_between (sums_at values round) from to there in
        (subst (λ n. from < n) (ranks_at round) between.0, up_teller (length values) round from (turn_at round from turn.0));
    addressee = λ from to there.
        let turn = sum_turn (sums_at values round) from to there in
        let between = sum_between (sums_at values round) from to there in
        (subst (λ n. to < n) (ranks_at round) between.1, up_parent (length values) round from to (turn_at round from turn.0) turn.1);
  }

  down_rows : (round : ℕ) → IsRow (length values) (down_fragment values round)
  down_rows round = record {
    sender = λ from to there.
        let turn = tell_turn (tellings_at values round) from to there in
        let between = tell_between (tellings_at values round) from to there in
        (subst (λ n. from < n) (told_ranks_at round) between.0, down_parent (length values) round to from (told_turn_at round to turn.0) turn.1);
    addressee = λ from to there.
        let turn = tell_turn (tellings_at values round) from to there in
        let between = tell_between (tellings_at values round) from to there in
        (subst (λ n. to < n) (told_ranks_at round) between.1, down_told (length values) round to (told_turn_at round to turn.0));
  }

  pub tree_is_run : IsRun (length values) (tree_fragments values)
  unfolding tree_fragments
  tree_is_run =
      let up = rounds (up_fragment values) 0 (rounds_up values) in
      let down = rounds (down_fragment values) 0 (rounds_down values) in
      IsRun-append (length values) up down (IsRun-rounds (length values) (up_fragment values) 0 (rounds_up values) (λ i j below. round_before 0 0 5 i j below) up_rows) (IsRun-rounds (length values) (down_fragment values) 0 (rounds_down values) (λ i j below. round_before 0 0 6 i j below) down_rows) (All-rounds (λ f. All (IsBefore f) down) (up_fragment values) 0 (rounds_up values) (λ i from below. All-rounds (IsBefore (up_fragment values i)) (down_fragment values) 0 (rounds_down values) (λ j after under. phase_before 0 0 5 6 i j (omega arith))))

  pub tree_is_course : IsCourse (tree_course values)
  unfolding tree_course
  tree_is_course = composed_is_course (length values) (tree_fragments values) tree_is_run

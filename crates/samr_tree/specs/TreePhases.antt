-- The rounds up and down, put together as phases, are the run of a sum over all ranks.
use Rattle.std.specs.Prelude.{◌≡◌, ℕ, zero, suc, ◌+◌, ◌-◌, ◌<◌, List, [], ◌∷◌, ◌++◌, length, Option, Some, None, refl}
use Rattle.std.proofs.Common.{arith, ap, sym, ◌∙◌, subst}
use Rattle.std.specs.Option.{option_map}
use mathlib.Core.Path.{fun_ext}
use Rattle.samr_stage.specs.Fragments.{Fragment, rounds, carried, composed, IsRun}
use Rattle.samr_tree.specs.TreeLaws.{tree_is_run}
use Rattle.samr_phase.specs.AtOne.{fragment}
use Rattle.samr_phase.specs.Turning.{after_turns, in_turns, last, ahead}
use Rattle.samr_phase.specs.Journey.{IsOf}
use Rattle.samr_tree.specs.SumUp.{sum_row}
use Rattle.samr_tree.specs.TellDown.{tell_row}
use Rattle.samr_tree.specs.TreeSum.{up_label, down_label, rounds_up, rounds_down, sums_at, tellings_at, goes_up, goes_down, up_fragment, down_fragment, tree_fragments, tree_course}
use Rattle.samr_tree.specs.TreeParts.{Round, next_round}

option_same : {B : Type 0} (o : Option B) → option_map (λ n. n) o ≡ o
option_same None = refl
option_same (Some b) = refl

carried_same : {B : Type 0} (row : ℕ → ℕ → Option B) → carried (λ n. n) row ≡ row
carried_same row = fun_ext (λ from. fun_ext (λ to. option_same (row from to)))

abbrev pub up_round : Round → List (Fragment ℕ)
up_round w = fragment (up_label w.round) (goes_up (length w.values) w.round) (λ n. n) (sum_row (sums_at w.values w.round)) ∷ []

abbrev pub down_round : Round → List (Fragment ℕ)
down_round w = fragment (down_label w.round) (goes_down (length w.values) w.round) (λ n. n) (tell_row (tellings_at w.values w.round)) ∷ []

ups_are : (values : List ℕ) (n k : ℕ) → in_turns up_round next_round n (record { values = values; round = k }) ≡ rounds (up_fragment values) k n
unfolding in_turns
ups_are values zero k = refl
ups_are values (suc n) k =
    ap (λ row. record { label = up_label k; visits = goes_up (length values) k; row = row } ∷ in_turns up_round next_round n (record { values = values; round = k + 1 })) (carried_same (sum_row (sums_at values k))) ∙ ap (λ fs. up_fragment values k ∷ fs) (ups_are values n (k + 1))

downs_are : (values : List ℕ) (n k : ℕ) → in_turns down_round next_round n (record { values = values; round = k }) ≡ rounds (down_fragment values) k n
unfolding in_turns
downs_are values zero k = refl
downs_are values (suc n) k =
    ap (λ row. record { label = down_label k; visits = goes_down (length values) k; row = row } ∷ in_turns down_round next_round n (record { values = values; round = k + 1 })) (carried_same (tell_row (tellings_at values k))) ∙ ap (λ fs. down_fragment values k ∷ fs) (downs_are values n (k + 1))

pub same_values : (n : ℕ) (w : Round) → (after_turns next_round n w).values ≡ w.values
unfolding after_turns
same_values zero w = refl
same_values (suc n) w = same_values n (next_round w)

abbrev pub ups_left : Round → ℕ
ups_left w = rounds_up w.values - w.round

abbrev pub downs_left : Round → ℕ
downs_left w = rounds_down w.values - w.round

abbrev pub first_round : List ℕ → Round
first_round values = record { values = values; round = 0 }

pub whole_is : (values : List ℕ) → ahead up_round next_round ups_left (first_round values) ++ ahead down_round next_round downs_left (first_round (last up_round next_round ups_left (first_round values)).values) ≡ tree_fragments values
unfolding ahead last tree_fragments
whole_is values =
    let up : rounds_up values - 0 ≡ rounds_up values = omega arith in
    let down : rounds_down values - 0 ≡ rounds_down values = omega arith in
    let ups = ap (λ n. in_turns up_round next_round n (first_round values)) up ∙ ups_are values (rounds_up values) 0 in
    let downs = ap (λ n. in_turns down_round next_round n (first_round values)) down ∙ downs_are values (rounds_down values) 0 in
    let values_are = same_values (rounds_up values - 0) (first_round values) in
    ap (λ vs. in_turns up_round next_round (rounds_up values - 0) (first_round values) ++ in_turns down_round next_round (rounds_down vs - 0) (first_round vs)) values_are
    ∙ ap (λ fs. fs ++ in_turns down_round next_round (rounds_down values - 0) (first_round values)) ups
    ∙ ap (λ fs. rounds (up_fragment values) 0 (rounds_up values) ++ fs) downs

pub sum_is_of : (values : List ℕ) → IsOf (tree_course values) (λ n. (tree_course values).letter n) (length values) (ahead up_round next_round ups_left (first_round values) ++ ahead down_round next_round downs_left (first_round (last up_round next_round ups_left (first_round values)).values))
unfolding tree_course composed
sum_is_of values =
    subst (IsOf (tree_course values) (λ n. (tree_course values).letter n) (length values)) (sym (whole_is values)) (record { same_ranks = refl; same_labels = λ rank. refl; same_letters = λ n. refl })

pub sum_is_run : (values : List ℕ) → IsRun (length values) (ahead up_round next_round ups_left (first_round values) ++ ahead down_round next_round downs_left (first_round (last up_round next_round ups_left (first_round values)).values))
sum_is_run values = subst (IsRun (length values)) (sym (whole_is values)) (tree_is_run values)

pub up_fewer : (w : Round) → 0 < rounds_up w.values - w.round → rounds_up w.values - w.round ≡ rounds_up w.values - (w.round + 1) + 1
up_fewer w some = omega (arith, some)

pub down_fewer : (w : Round) → 0 < rounds_down w.values - w.round → rounds_down w.values - w.round ≡ rounds_down w.values - (w.round + 1) + 1
down_fewer w some = omega (arith, some)

pub up_ends : (w : Round) → rounds_up w.values - w.round ≡ 0 → 0 < rounds_up w.values - w.round → ⊥
up_ends w none some = omega (arith, none, some)

pub down_ends : (w : Round) → rounds_down w.values - w.round ≡ 0 → 0 < rounds_down w.values - w.round → ⊥
down_ends w none some = omega (arith, none, some)

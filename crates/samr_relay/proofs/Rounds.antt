-- The rounds of a relay: the labels of a rank, and what it is told from round to round.
use Rattle.std.proofs.Common.{◌≡◌, ℕ, zero, suc, ◌+◌, ◌-◌, ◌*◌, ◌^◌, ◌<◌, ◌≤◌, min, [], ◌∷◌, ◌++◌, length, map, refl, sym, ap, ◌∙◌, subst, arith, add-one, Bool, true, false, cond, sum_by, get_or}
use Rattle.std.specs.List.{range_with_len}
use Rattle.std.proofs.lemmas.List.{map-id}
use Rattle.std.proofs.lemmas.List.FromFn.{map-range_with_len_more, get_or-map-range_with_len, length-map-range_with_len}
use Rattle.std.proofs.lemmas.List.Sums.{sum_by-append, sum_by-cons}
use Rattle.samr_stage.specs.Course.{IsOver, label_at, no_label}
use Rattle.samr_relay.specs.declared.run.RelayRun.{RelayRun}
use Rattle.samr_relay.specs.Relay.{round_label, hears, relay_course, told_in, told_before}
use Rattle.samr_relay.specs.Placed.{IsPlaced}

-- the numbers below n + 1
pub range_more : (n : ℕ) → range_with_len 0 (n + 1) ≡ range_with_len 0 n ++ n ∷ []
range_more n =
    sym (map-id (range_with_len 0 (n + 1))) ∙ map-range_with_len_more (λ k. k) 0 n n (omega arith) ∙ ap (λ ks. ks ++ n ∷ []) (map-id (range_with_len 0 n))

-- how many ranks and labels there are
pub ranks_is : (run : RelayRun) → (relay_course run).ranks ≡ run.ranks
unfolding relay_course
ranks_is run = refl

pub labels_length : (run : RelayRun) (rank : ℕ) → length ((relay_course run).labels rank) ≡ run.rounds
unfolding relay_course
labels_length run rank = length-map-range_with_len round_label 0 run.rounds

-- a rank that has left all rounds is over, and no other
pub over_is : (run : RelayRun) (rank round total : ℕ) → IsPlaced run rank round total → IsOver (relay_course run) rank round → round ≡ run.rounds
over_is run rank round total placed over =
    let within = placed.within in
    let all = labels_length run rank in
    omega (arith, within, over, all)

pub is_over : (run : RelayRun) (rank round : ℕ) → round ≡ run.rounds → IsOver (relay_course run) rank round
is_over run rank round all = let count = labels_length run rank in omega (arith, all, count)

pub is_going_on : (run : RelayRun) (rank round total : ℕ) → IsPlaced run rank round total → ¬ IsOver (relay_course run) rank round → round < run.rounds
is_going_on run rank round total placed going_on =
    let count = labels_length run rank in
    let within = placed.within in
    omega (arith, going_on, count, within)

-- the label at a place
label_among : (n place : ℕ) → get_or (map round_label (range_with_len 0 n)) (min place (length (map round_label (range_with_len 0 n)) - 1)) no_label ≡ round_label (min place (n - 1))
label_among zero place = let none : 0 ≡ min place (0 - 1) = omega arith in ap round_label none
label_among (suc n) place =
    let count = length-map-range_with_len round_label 0 (suc n) in
    let inside : min place (suc n - 1) < suc n = omega arith in
    ap (λ k. get_or (map round_label (range_with_len 0 (suc n))) (min place (k - 1)) no_label) count ∙ get_or-map-range_with_len round_label 0 (suc n) (min place (suc n - 1)) (min place (suc n - 1)) no_label inside (omega arith)

pub label_is : (run : RelayRun) (rank place : ℕ) → label_at ((relay_course run).labels rank) place ≡ round_label (min place (run.rounds - 1))
unfolding relay_course label_at
label_is run rank place = label_among run.rounds place

pub label_here : (run : RelayRun) (rank place : ℕ) → place < run.rounds → label_at ((relay_course run).labels rank) place ≡ round_label place
label_here run rank place below =
    let same : min place (run.rounds - 1) ≡ place = omega arith in label_is run rank place ∙ ap round_label same

module _ (run : RelayRun) (rank : ℕ) where
  pub told_none : told_before run rank 0 ≡ 0
  unfolding told_before
  told_none = refl

  -- one round more
  pub told_more : (n : ℕ) → told_before run rank (n + 1) ≡ told_before run rank n + told_in run rank n
  unfolding told_before
  told_more n =
      let one : sum_by (told_in run rank) (n ∷ []) ≡ told_in run rank n = sum_by-cons (told_in run rank) n [] ∙ omega arith in
      ap (sum_by (told_in run rank)) (range_more n) ∙ sum_by-append (told_in run rank) (range_with_len 0 n) (n ∷ []) ∙ ap (λ k. sum_by (told_in run rank) (range_with_len 0 n) + k) one

  told_small : (n : ℕ) → told_in run rank n ≤ n + 1
  told_small n = by (hears run n rank)
    where
      by : (b : Bool) → cond b (n + 1) 0 ≤ n + 1
      by true = omega arith
      by false = omega arith

  -- and what it is told fits, as long as the rounds' numbers do
  pub told_fits : (n : ℕ) → n < 2 ^ 32 → told_before run rank n ≤ n * 2 ^ 32
  told_fits zero small = let none = told_none in omega (arith, none)
  told_fits (suc n) small =
      let Family : ℕ → Type 0 = λ m. told_before run rank m ≤ m * 2 ^ 32 in
      let before = told_fits n (omega arith) in
      let next = told_more n in
      let here = told_small n in
      subst Family (add-one n) (omega (arith, before, next, here, small))

-- a rank that goes on by one round, with what it was told in it
pub next_fits : (run : RelayRun) (rank round total number : ℕ) → IsPlaced run rank round total → round < run.rounds → number ≡ told_in run rank round → total + number < 2 ^ 64
next_fits run rank round total number placed below told =
    let few = placed.relay.few in
    let so_far = placed.told in
    let next = told_more run rank round in
    let fits = told_fits run rank round (omega (arith, below, few)) in
    let small = told_small run rank round in
    omega (arith, below, few, so_far, next, fits, small, told)

pub next_place : (run : RelayRun) (rank round total number : ℕ) → IsPlaced run rank round total → round < run.rounds → number ≡ told_in run rank round → IsPlaced run rank (round + 1) (total + number)
next_place run rank round total number placed below told = record {
  relay = placed.relay;
  is_rank = placed.is_rank;
  within = omega (arith, below);
  told = let so_far = placed.told in let next = told_more run rank round in omega (arith, so_far, next, told);
}

-- Round by round up the tree the sum stays, and in the end rank 0 has it; round by round down it reaches every rank.
use Rattle.std.proofs.Common.{◌≡◌, ◌≢◌, ℕ, zero, suc, ◌+◌, ◌-◌, ◌*◌, ◌/◌, ◌<◌, ◌≤◌, List, length, slice_index, refl, sym, ap, ◌∙◌, subst, arith, add-one, inl, inr, sum, Bool, true, false, ◌&&◌, cond, nat_eq, nat_lt, nat_le, Some, None, unwrap_or}
use Rattle.std.proofs.lemmas.Bool.{cases_eq, cases_lt, cases_order, and_from, and_left, and_right, or_parts, eq-eqb, ne_eqb, lt-ltb, le-ltb, le-leb, lt-leb}
use Rattle.samr_stage.specs.Row.{column}
use Rattle.samr_tree.specs.Tree.{depth, bottom, tells_up, told_down}
use Rattle.samr_tree.specs.SumUp.{Sums, sum_row, summed}
use Rattle.samr_tree.specs.TellDown.{informed}
use Rattle.samr_tree.specs.TreeSum.{sums_at, tellings_at, rounds_up, rounds_down, goes_up, goes_down}
use Rattle.samr_tree.specs.TreeLaws.{ranks_at, round_at, told_ranks_at, told_round_at}
use Rattle.samr_tree.proofs.TreeLemmas.{depth_root, depth_up, depth_rising, depth_first}
use Rattle.samr_tree.proofs.SumLemmas.{row_silent, row_other, row_parent}
use Rattle.samr_tree.proofs.TellLemmas.{informed_told, informed_itself}
use Rattle.samr_tree.proofs.Totals.{total, total_same, total_plus, total_zero, total_one, total-ge, total_swap, total_list, total_heard}

-- a rank's turn to tell its parent
turn_up : (ranks round rank : ℕ) → 0 < rank → rank < ranks → depth rank + round ≡ bottom ranks → tells_up ranks round rank ≡ true
turn_up ranks round rank above within at =
    and_from (nat_lt 0 rank) _ (lt-ltb 0 rank above) (and_from (nat_lt rank ranks) _ (lt-ltb rank ranks within) (eq-eqb _ _ at))

no_turn_up : (ranks round rank : ℕ) → depth rank + round ≢ bottom ranks → tells_up ranks round rank ≡ false
no_turn_up ranks round rank other =
    and_right (nat_lt 0 rank) _ (and_right (nat_lt rank ranks) _ (ne_eqb _ _ other))

root_quiet : (ranks round : ℕ) → tells_up ranks round 0 ≡ false
root_quiet ranks round = and_left (nat_lt 0 0) (nat_lt 0 ranks && nat_eq (depth 0 + round) (bottom ranks)) refl

-- what a rank is told in a round
pub told_of : Sums → ℕ → ℕ
told_of w rank = total (λ from. unwrap_or (sum_row w from rank) 0) w.ranks

pub summed_is : (w : Sums) (rank : ℕ) → summed w rank ≡ w.number rank + told_of w rank
unfolding summed told_of
summed_is w rank =
    ap (λ k. w.number rank + k) (total_heard (column (sum_row w) rank) w.ranks)

-- a rank is told something only in the round in which it is its children's turn
row_late : (w : Sums) (from rank : ℕ) → depth rank + 1 + w.round ≢ bottom w.ranks → sum_row w from rank ≡ None
row_late w from rank other = elim (cases_lt 0 from) [
  | inr root ↦ row_silent w from rank (and_left (nat_lt 0 from) _ (le-ltb 0 from root))
  | inl above ↦ elim (cases_eq ((from - 1) / 2) rank) [
    | inr stranger ↦ row_other w from rank stranger
    | inl parent ↦
        let deep = depth_up from above ∙ ap (λ r. depth r + 1) parent in
        row_silent w from rank (no_turn_up w.ranks w.round from (λ e. other (ap (λ k. k + w.round) (sym deep) ∙ e)))
  ]
]

pub told_late : (w : Sums) (rank : ℕ) → depth rank + 1 + w.round ≢ bottom w.ranks → told_of w rank ≡ 0
unfolding told_of
told_late w rank other =
    total_zero (λ from. unwrap_or (sum_row w from rank) 0) w.ranks (λ from within. ap (λ o. unwrap_or o 0) (row_late w from rank other))

-- a rank with no child is told nothing
pub told_leaf : (w : Sums) (rank : ℕ) → w.ranks ≤ 2 * rank + 1 → told_of w rank ≡ 0
unfolding told_of
told_leaf w rank leaf =
    total_zero (λ from. unwrap_or (sum_row w from rank) 0) w.ranks (λ from within. ap (λ o. unwrap_or o 0) (elim (cases_lt 0 from) [
      | inr root ↦ row_silent w from rank (and_left (nat_lt 0 from) _ (le-ltb 0 from root))
      | inl above ↦ row_other w from rank (λ parent. omega arith)
    ]))

-- what all ranks are told is what those whose turn it is have
said : Sums → ℕ → ℕ
said w from = cond (tells_up w.ranks w.round from) (w.number from) 0

said_by : (w : Sums) (from : ℕ) → from < w.ranks → total (λ rank. unwrap_or (sum_row w from rank) 0) w.ranks ≡ said w from
unfolding said
said_by w from within =
    let one = total_one (λ rank. unwrap_or (sum_row w from rank) 0) w.ranks ((from - 1) / 2) (omega arith) (λ rank below other. ap (λ o. unwrap_or o 0) (row_other w from rank (λ e. other (sym e)))) in
    one ∙ ap (λ o. unwrap_or o 0) (row_parent w from ((from - 1) / 2) refl) ∙ by (tells_up w.ranks w.round from)
  where
    by : (b : Bool) → unwrap_or (cond b (Some (w.number from)) None) 0 ≡ cond b (w.number from) 0
    by true = refl
    by false = refl

all_told : (w : Sums) → total (told_of w) w.ranks ≡ total (said w) w.ranks
unfolding told_of
all_told w =
    total_swap (λ rank from. unwrap_or (sum_row w from rank) 0) w.ranks w.ranks ∙ total_same (λ from. total (λ rank. unwrap_or (sum_row w from rank) 0) w.ranks) (said w) w.ranks (λ from within. said_by w from within)

module _ (values : List ℕ) where
  pub next_at : (round rank : ℕ) → (sums_at values (round + 1)).number rank ≡ summed (sums_at values round) rank
  next_at round rank =
      let Family : ℕ → Type 0 = λ k. (sums_at values k).number rank ≡ summed (sums_at values round) rank in
      subst Family (sym (add-one round)) refl

  -- what the ranks that are not yet passed have before a round
  kept : ℕ → ℕ → ℕ
  kept round rank =
      cond (nat_le (depth rank + round) (bottom (length values))) ((sums_at values round).number rank) 0

  -- and those of them whose turn it is not yet
  waiting : ℕ → ℕ → ℕ
  waiting round rank =
      cond (nat_lt (depth rank + round) (bottom (length values))) ((sums_at values round).number rank) 0

  kept_splits : (round rank : ℕ) → round < bottom (length values) → rank < length values → kept round rank ≡ waiting round rank + said (sums_at values round) rank
  unfolding kept waiting said
  kept_splits round rank early within =
      let ranks = ranks_at values round in
      let at = round_at values round in
      let T : ℕ → ℕ → Type 0 = λ n k. cond (nat_le (depth rank + round) (bottom (length values))) ((sums_at values round).number rank) 0 ≡ cond (nat_lt (depth rank + round) (bottom (length values))) ((sums_at values round).number rank) 0 + cond (tells_up n k rank) ((sums_at values round).number rank) 0 in
      subst (λ k. T (sums_at values round).ranks k) (sym at) (subst (λ n. T n round) (sym ranks) (elim (cases_order (depth rank + round) (bottom (length values))) [
        | inl same ↦
            let above : 0 < rank = by_root rank (λ root. omega (arith, same, ap depth root, depth_root)) in
            let less : nat_le (depth rank + round) (bottom (length values)) ≡ true = le-leb _ _ (omega arith) in
            let not_less : nat_lt (depth rank + round) (bottom (length values)) ≡ false = le-ltb _ _ (omega arith) in
            let turn = turn_up (length values) round rank above within same in
            rw (less, not_less, turn) (omega arith)
        | inr apart ↦ elim apart [
          | inl before ↦
              let less : nat_le (depth rank + round) (bottom (length values)) ≡ true = le-leb _ _ (omega arith) in
              let below : nat_lt (depth rank + round) (bottom (length values)) ≡ true = lt-ltb _ _ before in
              let quiet = no_turn_up (length values) round rank (λ e. omega arith) in
              rw (less, below, quiet) (omega arith)
          | inr after ↦
              let more : nat_le (depth rank + round) (bottom (length values)) ≡ false = lt-leb _ _ after in
              let above : nat_lt (depth rank + round) (bottom (length values)) ≡ false = le-ltb _ _ (omega arith) in
              let quiet = no_turn_up (length values) round rank (λ e. omega arith) in
              rw (more, above, quiet) refl
        ]
      ]))
    where
      by_root : (r : ℕ) → (r ≡ 0 → ⊥) → 0 < r
      by_root r h = elim (cases_lt 0 r) [
        | inl above ↦ above
        | inr root ↦ absurd (h (omega arith))
      ]

  kept_grows : (round rank : ℕ) → kept (round + 1) rank ≡ waiting round rank + told_of (sums_at values round) rank
  unfolding kept waiting
  kept_grows round rank =
      let w = sums_at values round in
      let next = next_at round rank ∙ summed_is w rank in
      elim (cases_lt (depth rank + round) (bottom (length values))) [
        | inl before ↦
            let less : nat_le (depth rank + (round + 1)) (bottom (length values)) ≡ true = le-leb _ _ (omega arith) in
            let below : nat_lt (depth rank + round) (bottom (length values)) ≡ true = lt-ltb _ _ before in
            rw (less, below) next
        | inr after ↦
            let more : nat_le (depth rank + (round + 1)) (bottom (length values)) ≡ false = lt-leb _ _ (omega arith) in
            let above : nat_lt (depth rank + round) (bottom (length values)) ≡ false = le-ltb _ _ after in
            let late = told_late w rank (λ e. omega (arith, e, round_at values round, ap bottom (ranks_at values round))) in
            rw (more, above) (omega (arith, late))
      ]

  kept_early : (round rank : ℕ) → depth rank + round ≤ bottom (length values) → kept round rank ≡ (sums_at values round).number rank
  unfolding kept
  kept_early round rank early =
      let less : nat_le (depth rank + round) (bottom (length values)) ≡ true = le-leb _ _ early in rw less refl

  kept_late : (round rank : ℕ) → bottom (length values) < depth rank + round → kept round rank ≡ 0
  unfolding kept
  kept_late round rank late =
      let more : nat_le (depth rank + round) (bottom (length values)) ≡ false = lt-leb _ _ late in rw more refl

  -- round by round the sum stays
  kept_total : (round : ℕ) → 0 < length values → round ≤ bottom (length values) → total (kept round) (length values) ≡ sum values
  kept_total zero some early =
      total_same (kept 0) (λ rank. slice_index values rank) (length values) (λ rank within. kept_early 0 rank (omega (arith, depth_rising rank (length values - 1) (omega arith)))) ∙ total_list values
  kept_total (suc round) some early =
      let Family : ℕ → Type 0 = λ k. total (kept k) (length values) ≡ sum values in
      let w = sums_at values round in
      let before = kept_total round some (omega arith) in
      let splits = total_same (kept round) (λ rank. waiting round rank + said w rank) (length values) (λ rank within. kept_splits round rank (omega arith) within) ∙ total_plus (waiting round) (said w) (length values) in
      let grows = total_same (kept (round + 1)) (λ rank. waiting round rank + told_of w rank) (length values) (λ rank within. kept_grows round rank) ∙ total_plus (waiting round) (told_of w) (length values) in
      let T : ℕ → Type 0 = λ n. total (told_of w) n ≡ total (said w) n in
      let told = subst T (ranks_at values round) (all_told w) in
      subst Family (add-one round) (omega (arith, before, splits, grows, told))

  -- and no rank that is not passed has more
  pub number-le : (round rank : ℕ) → rank < length values → depth rank + round ≤ bottom (length values) → (sums_at values round).number rank ≤ sum values
  number-le round rank within early =
      let all = kept_total round (omega arith) (omega arith) in
      let one = total-ge (kept round) (length values) rank within in
      omega (arith, all, one, kept_early round rank early)

  -- at the bottom's last round rank 0 has the sum
  pub root_total : 0 < length values → (sums_at values (bottom (length values))).number 0 ≡ sum values
  root_total some =
      let all = kept_total (bottom (length values)) some (omega arith) in
      let one = total_one (kept (bottom (length values))) (length values) 0 some (λ rank within other. kept_late (bottom (length values)) rank (omega (arith, other, depth_up rank (omega (arith, other))))) in
      sym (kept_early (bottom (length values)) 0 (omega (arith, depth_root))) ∙ sym one ∙ all

  -- a rank that is not told anything in a round has the same number before and after it
  quiet_round : (round rank : ℕ) → told_of (sums_at values round) rank ≡ 0 → (sums_at values (round + 1)).number rank ≡ (sums_at values round).number rank
  quiet_round round rank quiet =
      omega (arith, next_at round rank, summed_is (sums_at values round) rank, quiet)

  -- and so has one that does not visit the round
  pub stays_up : (round rank : ℕ) → goes_up (length values) round rank ≡ false → (sums_at values (round + 1)).number rank ≡ (sums_at values round).number rank
  stays_up round rank skips =
      let w = sums_at values round in
      let child = (or_parts (tells_up (length values) round (2 * rank + 1)) _ (or_parts (tells_up (length values) round rank) _ skips).1).0 in
      quiet_round round rank (elim (cases_eq (depth rank + 1 + w.round) (bottom w.ranks)) [
        | inr other ↦ told_late w rank other
        | inl turn ↦ elim (cases_lt (2 * rank + 1) (length values)) [
          | inr leaf ↦ told_leaf w rank (omega (arith, leaf, ranks_at values round))
          | inl within ↦
              let tells = turn_up (length values) round (2 * rank + 1) (omega arith) within (omega (arith, depth_first rank, turn, round_at values round, ap bottom (ranks_at values round))) in
              cc
        ]
      ])

  -- no rank ever has more than the sum
  pub never_more : (round rank : ℕ) → rank < length values → (sums_at values round).number rank ≤ sum values
  never_more round rank within = elim (cases_lt (bottom (length values)) (depth rank + round)) [
    | inr early ↦ number-le round rank within early
    | inl late ↦ passed round rank within late
  ]
    where
      passed : (round rank : ℕ) → rank < length values → bottom (length values) < depth rank + round → (sums_at values round).number rank ≤ sum values
      passed zero rank within late =
          absurd (omega (arith, late, depth_rising rank (length values - 1) (omega arith)))
      passed (suc round) rank within late =
          let w = sums_at values round in
          let Family : ℕ → Type 0 = λ k. (sums_at values k).number rank ≤ sum values in
          let same = quiet_round round rank (told_late w rank (λ e. omega (arith, e, late, round_at values round, ap bottom (ranks_at values round)))) in
          subst Family (add-one round) (elim (cases_lt (bottom (length values)) (depth rank + round)) [
            | inr early ↦ omega (arith, same, number-le round rank within early)
            | inl later ↦ omega (arith, same, passed round rank within later)
          ])

  -- after all rounds of going up rank 0 has the sum
  pub root_after : 0 < length values → (sums_at values (rounds_up values)).number 0 ≡ sum values
  root_after some =
      let w = sums_at values (bottom (length values)) in
      quiet_round (bottom (length values)) 0 (told_late w 0 (λ e. omega (arith, e, round_at values (bottom (length values)), ap bottom (ranks_at values (bottom (length values)))))) ∙ root_total some

  pub told_next_at : (round rank : ℕ) → (tellings_at values (round + 1)).number rank ≡ informed (tellings_at values round) rank
  told_next_at round rank =
      let Family : ℕ → Type 0 = λ k. (tellings_at values k).number rank ≡ informed (tellings_at values round) rank in
      subst Family (sym (add-one round)) refl

  told_at_round : (round rank : ℕ) (b : Bool) → told_down (length values) round rank ≡ b → told_down (tellings_at values round).ranks (tellings_at values round).round rank ≡ b
  told_at_round round rank b is =
      let T : ℕ → ℕ → Type 0 = λ n k. told_down n k rank ≡ b in
      subst (λ k. T (tellings_at values round).ranks k) (sym (told_round_at values round)) (subst (λ n. T n round) (sym (told_ranks_at values round)) is)

  -- a rank that does not visit a round of going down has the same number before and after it
  pub stays_down : (round rank : ℕ) → goes_down (length values) round rank ≡ false → (tellings_at values (round + 1)).number rank ≡ (tellings_at values round).number rank
  stays_down round rank skips =
      let quiet = (or_parts (told_down (length values) round rank) _ skips).0 in
      told_next_at round rank ∙ informed_itself (tellings_at values round) rank (told_at_round round rank false quiet)

  -- round by round the ranks of one more depth have the sum
  pub told_to : (round rank : ℕ) → rank < length values → depth rank ≤ round → (tellings_at values round).number rank ≡ sum values
  told_to zero rank within deep = elim (cases_lt 0 rank) [
    | inl above ↦ absurd (omega (arith, depth_up rank above))
    | inr root ↦
        let test : nat_lt 0 rank ≡ false = le-ltb 0 rank root in
        let none : rank ≡ 0 = omega arith in
        rw test (ap (sums_at values (rounds_up values)).number none ∙ root_after (omega arith))
  ]
  told_to (suc round) rank within deep =
      let Family : ℕ → Type 0 = λ k. (tellings_at values k).number rank ≡ sum values in
      subst Family (add-one round) (told_next_at round rank ∙ elim (cases_eq (depth rank) (round + 1)) [
        | inl turn ↦
            let above : 0 < rank = (elim (cases_lt 0 rank) [
              | inl below ↦ below
              | inr root ↦ let none : rank ≡ 0 = omega arith in absurd (omega (arith, turn, ap depth none, depth_root))
            ]) in
            let told = and_from (nat_lt 0 rank) _ (lt-ltb 0 rank above) (and_from (nat_lt rank (length values)) _ (lt-ltb rank (length values) within) (eq-eqb (depth rank) (round + 1) turn)) in
            informed_told (tellings_at values round) rank (told_at_round round rank true told) ∙ told_to round ((rank - 1) / 2) (omega arith) (omega (arith, depth_up rank above, turn))
        | inr other ↦
            let quiet = and_right (nat_lt 0 rank) _ (and_right (nat_lt rank (length values)) _ (ne_eqb (depth rank) (round + 1) other)) in
            informed_itself (tellings_at values round) rank (told_at_round round rank false quiet) ∙ told_to round rank within (omega (arith, other, deep))
      ])

  -- after all rounds of going down every rank has the sum
  pub all_after : (rank : ℕ) → rank < length values → (tellings_at values (rounds_down values)).number rank ≡ sum values
  all_after rank within =
      told_to (bottom (length values)) rank within (depth_rising rank (length values - 1) (omega arith))

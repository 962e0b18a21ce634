-- One round of the sum up the tree: what a rank tells, and what its children tell it.
use Rattle.std.proofs.Common.{◌≡◌, ◌≢◌, ℕ, ◌+◌, ◌-◌, ◌*◌, ◌/◌, ◌<◌, ◌≤◌, List, [], ◌∷◌, ◌++◌, Bool, true, false, ◌&&◌, cond, nat_eq, nat_lt, Option, Some, None, refl, sym, ap, ◌∙◌, subst, arith, inl, inr, sum_by}
use Rattle.std.specs.List.{cons_option}
use Rattle.std.specs.Option.{option_map, option_map_or}
use Rattle.std.proofs.lemmas.Bool.{cases_lt, and_parts, and_left, and_right, ltb-true, eq-eqb, ne_eqb, lt-ltb, le-ltb}
use Rattle.std.proofs.lemmas.List.Sums.{sum_by-append}
use Rattle.samr_stage.specs.declared.stage.Held.{Held}
use Rattle.samr_stage.specs.Row.{told, heard, column}
use Rattle.samr_stage.proofs.Rows.{along_one, along_nothing}
use Rattle.samr_stage.proofs.Lines.{along_two}
use Rattle.samr_tree.specs.Tree.{parent, tells_up, first_child, second_child}
use Rattle.samr_tree.proofs.TreeLemmas.{parent-some, parent-none}
use Rattle.samr_tree.specs.SumUp.{Sums, sum_row, summed, IsSum}

-- a rank with a parent is a child of it
pub strange : (rank k : ℕ) → 0 < k → k ≢ 2 * rank + 1 → k ≢ 2 * rank + 2 → (k - 1) / 2 ≢ rank
strange rank k above first second same = omega (arith, first, second)

-- a rank whose turn it is not says nothing, and one whose turn it is nothing to others than its parent
pub row_silent : (w : Sums) (from to : ℕ) → tells_up w.ranks w.round from ≡ false → sum_row w from to ≡ None
unfolding sum_row
row_silent w from to quiet = rw quiet refl

pub row_other : (w : Sums) (from to : ℕ) → (from - 1) / 2 ≢ to → sum_row w from to ≡ None
unfolding sum_row
row_other w from to other =
    let test : (tells_up w.ranks w.round from && nat_eq ((from - 1) / 2) to) ≡ false = and_right _ _ (ne_eqb _ _ other) in rw test refl

pub row_parent : (w : Sums) (from to : ℕ) → (from - 1) / 2 ≡ to → sum_row w from to ≡ cond (tells_up w.ranks w.round from) (Some (w.number from)) None
unfolding sum_row
row_parent w from to same = by (tells_up w.ranks w.round from) refl
  where
    by : (b : Bool) → tells_up w.ranks w.round from ≡ b → cond (tells_up w.ranks w.round from && nat_eq ((from - 1) / 2) to) (Some (w.number from)) None ≡ cond (tells_up w.ranks w.round from) (Some (w.number from)) None
    by true e = let test : nat_eq ((from - 1) / 2) to ≡ true = eq-eqb _ _ same in rw (e, test) refl
    by false e = rw e refl

-- what a rank tells
pub told_silent : (w : Sums) (rank : ℕ) → tells_up w.ranks w.round rank ≡ false → told (sum_row w rank) w.ranks ≡ []
told_silent w rank quiet =
    along_nothing (λ to body. (to, body)) (sum_row w rank) w.ranks (λ to below. row_silent w rank to quiet)

pub told_parent : (w : Sums) (rank : ℕ) → tells_up w.ranks w.round rank ≡ true → told (sum_row w rank) w.ranks ≡ ((rank - 1) / 2, w.number rank) ∷ []
told_parent w rank tells =
    let parts = and_parts (nat_lt 0 rank) _ tells in
    let within = ltb-true rank w.ranks (and_parts (nat_lt rank w.ranks) _ parts.1).0 in
    let below : (rank - 1) / 2 < w.ranks = omega arith in
    let there = row_parent w rank ((rank - 1) / 2) refl ∙ ap (λ b. cond b (Some (w.number rank)) None) tells in
    along_one (λ to body. (to, body)) (sum_row w rank) w.ranks ((rank - 1) / 2) (w.number rank) below there (λ to within other. row_other w rank to (λ e. other (sym e)))

-- what a rank is told by another
abbrev pub from_one : Sums → ℕ → List (Held ℕ)
from_one w from =
    cond (tells_up w.ranks w.round from) (record { sender = from; body = w.number from } ∷ []) []

picked : (w : Sums) (from to : ℕ) → (from - 1) / 2 ≡ to → cons_option {X = Held ℕ} (option_map (λ body. record { sender = from; body = body }) (sum_row w from to)) [] ≡ from_one w from
picked w from to same =
    ap (λ o. cons_option {X = Held ℕ} (option_map (λ body. record { sender = from; body = body }) o) []) (row_parent w from to same) ∙ by (tells_up w.ranks w.round from)
  where
    by : (b : Bool) → cons_option {X = Held ℕ} (option_map (λ body. record { sender = from; body = body }) (cond b (Some (w.number from)) None)) [] ≡ cond b (record { sender = from; body = w.number from } ∷ []) []
    by true = refl
    by false = refl

-- a rank is told by its children alone
beyond : (w : Sums) (from : ℕ) → w.ranks ≤ from → tells_up w.ranks w.round from ≡ false
beyond w from past =
    and_right (nat_lt 0 from) _ (and_left (nat_lt from w.ranks) _ (le-ltb from w.ranks past))

strangers : (w : Sums) (rank k : ℕ) → k ≢ 2 * rank + 1 → k ≢ 2 * rank + 2 → sum_row w k rank ≡ None
strangers w rank k first second = elim (cases_lt 0 k) [
  | inl above ↦ row_other w k rank (λ same. strange rank k above first second same)
  | inr root ↦ row_silent w k rank (and_left (nat_lt 0 k) _ (le-ltb 0 k root))
]

pub heard_two : (w : Sums) (rank : ℕ) → heard (column (sum_row w) rank) w.ranks ≡ from_one w (2 * rank + 1) ++ from_one w (2 * rank + 2)
heard_two w rank =
    let first = picked w (2 * rank + 1) rank (omega arith) in
    let second = picked w (2 * rank + 2) rank (omega arith) in
    along_two (λ from body. record { sender = from; body = body }) (column (sum_row w) rank) (2 * rank + 1) (2 * rank + 2) w.ranks (omega arith) (strangers w rank) (λ past. row_silent w (2 * rank + 1) rank (beyond w (2 * rank + 1) past)) (λ past. row_silent w (2 * rank + 2) rank (beyond w (2 * rank + 2) past)) ∙ ap (λ xs. xs ++ cons_option {X = Held ℕ} (option_map (λ body. record { sender = 2 * rank + 2; body = body }) (sum_row w (2 * rank + 2) rank)) []) first ∙ ap (λ xs. from_one w (2 * rank + 1) ++ xs) second

-- how many children tell a rank
pub count_heard : (w : Sums) (rank : ℕ) → sum_by (λ (held : Held ℕ). 1) (heard (column (sum_row w) rank) w.ranks) ≡ cond (tells_up w.ranks w.round (2 * rank + 1)) 1 0 + cond (tells_up w.ranks w.round (2 * rank + 2)) 1 0
count_heard w rank =
    ap (sum_by (λ (held : Held ℕ). 1)) (heard_two w rank) ∙ sum_by-append (λ (held : Held ℕ). 1) (from_one w (2 * rank + 1)) (from_one w (2 * rank + 2)) ∙ ap (λ n. n + sum_by (λ (held : Held ℕ). 1) (from_one w (2 * rank + 2))) (one w (2 * rank + 1)) ∙ ap (λ n. cond (tells_up w.ranks w.round (2 * rank + 1)) 1 0 + n) (one w (2 * rank + 2))
  where
    one : (w : Sums) (from : ℕ) → sum_by (λ (held : Held ℕ). 1) (from_one w from) ≡ cond (tells_up w.ranks w.round from) 1 0
    one w from = by (tells_up w.ranks w.round from)
      where
        by : (b : Bool) → sum_by (λ (held : Held ℕ). 1) (cond b (record { sender = from; body = w.number from } ∷ []) []) ≡ cond b 1 0
        by true = refl
        by false = refl

-- and that is what is counted at each child that there is
pub counted : (w : Sums) (rank : ℕ) → option_map_or (λ r. cond (tells_up w.ranks w.round r) 1 0) (first_child w.ranks rank) 0 + option_map_or (λ r. cond (tells_up w.ranks w.round r) 1 0) (second_child w.ranks rank) 0 ≡ sum_by (λ (held : Held ℕ). 1) (heard (column (sum_row w) rank) w.ranks)
counted w rank = sym (count_heard w rank ∙ both)
  where
    at_child : (child : ℕ) → ◌≡◌ {A = ℕ} (cond (tells_up w.ranks w.round child) 1 0) (option_map_or (λ r. cond (tells_up w.ranks w.round r) 1 0) (cond (nat_lt child w.ranks) (Some child) None) 0)
    at_child child = elim (cases_lt child w.ranks) [
      | inl within ↦
          let test : nat_lt child w.ranks ≡ true = lt-ltb child w.ranks within in
          sym (ap (λ b. option_map_or (λ r. cond (tells_up w.ranks w.round r) 1 0) (cond b (Some child) None) 0) test)
      | inr past ↦
          let test : nat_lt child w.ranks ≡ false = le-ltb child w.ranks past in
          ap (λ b. cond b 1 0) (beyond w child past) ∙ sym (ap (λ b. option_map_or (λ r. cond (tells_up w.ranks w.round r) 1 0) (cond b (Some child) None) 0) test)
    ]

    both : ◌≡◌ {A = ℕ} (cond (tells_up w.ranks w.round (2 * rank + 1)) 1 0 + cond (tells_up w.ranks w.round (2 * rank + 2)) 1 0) (option_map_or (λ r. cond (tells_up w.ranks w.round r) 1 0) (first_child w.ranks rank) 0 + option_map_or (λ r. cond (tells_up w.ranks w.round r) 1 0) (second_child w.ranks rank) 0)
    both = ap (λ n. n + cond (tells_up w.ranks w.round (2 * rank + 2)) 1 0) (at_child (2 * rank + 1)) ∙ ap (λ n. option_map_or (λ r. cond (tells_up w.ranks w.round r) 1 0) (first_child w.ranks rank) 0 + n) (at_child (2 * rank + 2))

-- a rank's stage against its part of the round
module _ (rank ranks round number : ℕ) (w : Sums) (r : ℕ) (is : IsSum rank ranks round number w r) where
  turn_here : (b : Bool) → b ≡ tells_up ranks round rank → tells_up w.ranks w.round r ≡ b
  turn_here b e = sym (rw (is.same_rank, is.same_ranks, is.same_round) at e)

  pub says_nothing : (items : List (ℕ × ℕ)) → items ≡ [] → false ≡ tells_up ranks round rank → items ≡ told (sum_row w r) w.ranks
  says_nothing items none quiet = none ∙ sym (told_silent w r (turn_here false quiet))

  pub says_number : (items old : List (ℕ × ℕ)) (above : ℕ) → items ≡ old ++ (above, number) ∷ [] → old ≡ [] → true ≡ tells_up ranks round rank → Some above ≡ parent rank → items ≡ told (sum_row w r) w.ranks
  says_number items old above pushed none turn is_parent =
      let there = (parent-some rank above is_parent).1 ∙ ap (λ k. (k - 1) / 2) is.same_rank in
      pushed ∙ ap (λ xs. xs ++ (above, number) ∷ []) none ∙ pair above ((r - 1) / 2) number (w.number r) there is.same_number ∙ sym (told_parent w r (turn_here true turn))
    where
      pair : (a b n m : ℕ) → a ≡ b → n ≡ m → ◌≡◌ {A = List (ℕ × ℕ)} ((a, n) ∷ []) ((b, m) ∷ [])
      pair a b n m e f = rw (e, f)

  pub has_parent : true ≡ tells_up ranks round rank → None ≡ parent rank → ⊥
  has_parent turn none =
      let root = parent-none rank none in
      let above = ltb-true 0 rank (and_parts (nat_lt 0 rank) _ (sym turn)).0 in
      omega arith

  pub goal_is : (a b : ℕ) (x y : Option ℕ) → x ≡ first_child ranks rank → y ≡ second_child ranks rank → a ≡ option_map_or (λ k. cond (tells_up ranks round k) 1 0) x 0 → b ≡ option_map_or (λ k. cond (tells_up ranks round k) 1 0) y 0
      → a + b ≡ sum_by (λ (held : Held ℕ). 1) (heard (column (sum_row w) r) w.ranks)
  goal_is a b x y first second one two =
      let left = one ∙ ap (λ o. option_map_or (λ k. cond (tells_up ranks round k) 1 0) o 0) first in
      let right = two ∙ ap (λ o. option_map_or (λ k. cond (tells_up ranks round k) 1 0) o 0) second in
      let F : ℕ → ℕ → ℕ → Type 0 = λ i n k. option_map_or (λ c. cond (tells_up n k c) 1 0) (first_child n i) 0 + option_map_or (λ c. cond (tells_up n k c) 1 0) (second_child n i) 0 ≡ sum_by (λ (held : Held ℕ). 1) (heard (column (sum_row w) r) w.ranks) in
      let both = subst (λ i. F i ranks round) (sym is.same_rank) (subst (λ n. F r n round) (sym is.same_ranks) (subst (λ k. F r w.ranks k) (sym is.same_round) (counted w r))) in
      ap (λ n. n + b) left ∙ ap (λ n. option_map_or (λ k. cond (tells_up ranks round k) 1 0) (first_child ranks rank) 0 + n) right ∙ both

  pub summed_held : (items : List (Held ℕ)) → items ≡ heard (column (sum_row w) r) w.ranks → number + sum_by (λ (held : Held ℕ). held.body) items ≡ summed w r
  unfolding summed
  summed_held items all =
      ap (λ n. n + sum_by (λ (held : Held ℕ). held.body) items) is.same_number ∙ ap (λ xs. w.number r + sum_by (λ (held : Held ℕ). held.body) xs) all

-- One round of telling down the tree: what a rank tells its children, and what its parent tells it.
use Rattle.std.proofs.Common.{◌≡◌, ◌≢◌, ℕ, ◌+◌, ◌-◌, ◌*◌, ◌/◌, ◌<◌, ◌≤◌, List, [], ◌∷◌, ◌++◌, Bool, true, false, ◌&&◌, cond, nat_eq, nat_lt, Option, Some, None, refl, sym, ap, ◌∙◌, subst, arith, inl, inr, sum_by}
use Rattle.std.specs.List.{cons_option}
use Rattle.std.specs.List.{slice_get}
use Rattle.std.specs.Option.{option_map, option_map_or}
use Rattle.std.proofs.lemmas.Bool.{cases_Bool, cases_lt, and_parts, and_left, and_right, ltb-true, eq-eqb, ne_eqb, lt-ltb, le-ltb}
use Rattle.std.proofs.lemmas.Option.{same_Some}
use Rattle.samr_stage.specs.declared.stage.Held.{Held}
use Rattle.samr_stage.specs.Row.{told, heard, column}
use Rattle.samr_stage.proofs.Rows.{along_one, along_nothing}
use Rattle.samr_stage.proofs.Lines.{along_two}
use Rattle.samr_tree.specs.Tree.{told_down, first_child, second_child}
use Rattle.samr_tree.specs.TellDown.{Tellings, tell_row, informed, IsTelling}
use Rattle.samr_tree.proofs.SumLemmas.{strange}

row_silent : (w : Tellings) (from to : ℕ) → told_down w.ranks w.round to ≡ false → tell_row w from to ≡ None
unfolding tell_row
row_silent w from to quiet = rw quiet refl

row_other : (w : Tellings) (from to : ℕ) → (to - 1) / 2 ≢ from → tell_row w from to ≡ None
unfolding tell_row
row_other w from to other =
    let test : (told_down w.ranks w.round to && nat_eq ((to - 1) / 2) from) ≡ false = and_right _ _ (ne_eqb _ _ other) in rw test refl

row_parent : (w : Tellings) (from to : ℕ) → (to - 1) / 2 ≡ from → tell_row w from to ≡ cond (told_down w.ranks w.round to) (Some (w.number from)) None
unfolding tell_row
row_parent w from to same = by (told_down w.ranks w.round to) refl
  where
    by : (b : Bool) → told_down w.ranks w.round to ≡ b → cond (told_down w.ranks w.round to && nat_eq ((to - 1) / 2) from) (Some (w.number from)) None ≡ cond (told_down w.ranks w.round to) (Some (w.number from)) None
    by true e = let test : nat_eq ((to - 1) / 2) from ≡ true = eq-eqb _ _ same in rw (e, test) refl
    by false e = rw e refl

-- what a rank tells a child
abbrev pub to_one : Tellings → ℕ → ℕ → List (ℕ × ℕ)
to_one w from to = cond (told_down w.ranks w.round to) ((to, w.number from) ∷ []) []

picked : (w : Tellings) (from to : ℕ) → (to - 1) / 2 ≡ from → cons_option {X = ℕ × ℕ} (option_map (λ body. (to, body)) (tell_row w from to)) [] ≡ to_one w from to
picked w from to same =
    ap (λ o. cons_option {X = ℕ × ℕ} (option_map (λ body. (to, body)) o) []) (row_parent w from to same) ∙ by (told_down w.ranks w.round to)
  where
    by : (b : Bool) → cons_option {X = ℕ × ℕ} (option_map (λ body. (to, body)) (cond b (Some (w.number from)) None)) [] ≡ cond b ((to, w.number from) ∷ []) []
    by true = refl
    by false = refl

beyond : (w : Tellings) (to : ℕ) → w.ranks ≤ to → told_down w.ranks w.round to ≡ false
beyond w to past =
    and_right (nat_lt 0 to) _ (and_left (nat_lt to w.ranks) _ (le-ltb to w.ranks past))

strangers : (w : Tellings) (rank k : ℕ) → k ≢ 2 * rank + 1 → k ≢ 2 * rank + 2 → tell_row w rank k ≡ None
strangers w rank k first second = elim (cases_lt 0 k) [
  | inl above ↦ row_other w rank k (λ same. strange rank k above first second same)
  | inr root ↦ row_silent w rank k (and_left (nat_lt 0 k) _ (le-ltb 0 k root))
]

-- a rank tells its children alone
told_two : (w : Tellings) (rank : ℕ) → told (tell_row w rank) w.ranks ≡ to_one w rank (2 * rank + 1) ++ to_one w rank (2 * rank + 2)
told_two w rank =
    let first = picked w rank (2 * rank + 1) (omega arith) in
    let second = picked w rank (2 * rank + 2) (omega arith) in
    along_two (λ to body. (to, body)) (tell_row w rank) (2 * rank + 1) (2 * rank + 2) w.ranks (omega arith) (strangers w rank) (λ past. row_silent w rank (2 * rank + 1) (beyond w (2 * rank + 1) past)) (λ past. row_silent w rank (2 * rank + 2) (beyond w (2 * rank + 2) past)) ∙ ap (λ xs. xs ++ cons_option {X = ℕ × ℕ} (option_map (λ body. (2 * rank + 2, body)) (tell_row w rank (2 * rank + 2))) []) first ∙ ap (λ xs. to_one w rank (2 * rank + 1) ++ xs) second

-- and each child that there is
pub told_children : (w : Tellings) (rank : ℕ) → ([] ++ option_map_or (λ c. cond (told_down w.ranks w.round c) ((c, w.number rank) ∷ []) []) (first_child w.ranks rank) []) ++ option_map_or (λ c. cond (told_down w.ranks w.round c) ((c, w.number rank) ∷ []) []) (second_child w.ranks rank) [] ≡ told (tell_row w rank) w.ranks
told_children w rank = sym (told_two w rank ∙ both)
  where
    at_child : (child : ℕ) → to_one w rank child ≡ option_map_or (λ c. cond (told_down w.ranks w.round c) ((c, w.number rank) ∷ []) []) (cond (nat_lt child w.ranks) (Some child) None) []
    at_child child = elim (cases_lt child w.ranks) [
      | inl within ↦
          let test : nat_lt child w.ranks ≡ true = lt-ltb child w.ranks within in
          sym (ap (λ b. option_map_or (λ c. cond (told_down w.ranks w.round c) ((c, w.number rank) ∷ []) []) (cond b (Some child) None) []) test)
      | inr past ↦
          let test : nat_lt child w.ranks ≡ false = le-ltb child w.ranks past in
          ap (λ b. cond b ((child, w.number rank) ∷ []) []) (beyond w child past) ∙ sym (ap (λ b. option_map_or (λ c. cond (told_down w.ranks w.round c) ((c, w.number rank) ∷ []) []) (cond b (Some child) None) []) test)
    ]

    both : to_one w rank (2 * rank + 1) ++ to_one w rank (2 * rank + 2) ≡ option_map_or (λ c. cond (told_down w.ranks w.round c) ((c, w.number rank) ∷ []) []) (first_child w.ranks rank) [] ++ option_map_or (λ c. cond (told_down w.ranks w.round c) ((c, w.number rank) ∷ []) []) (second_child w.ranks rank) []
    both = ap (λ xs. xs ++ to_one w rank (2 * rank + 2)) (at_child (2 * rank + 1)) ∙ ap (λ xs. option_map_or (λ c. cond (told_down w.ranks w.round c) ((c, w.number rank) ∷ []) []) (first_child w.ranks rank) [] ++ xs) (at_child (2 * rank + 2))

-- a rank whose turn it is hears its parent, and others hear nobody
pub heard_parent : (w : Tellings) (rank : ℕ) → told_down w.ranks w.round rank ≡ true → heard (column (tell_row w) rank) w.ranks ≡ record { sender = (rank - 1) / 2; body = w.number ((rank - 1) / 2) } ∷ []
heard_parent w rank turn =
    let parts = and_parts (nat_lt 0 rank) _ turn in
    let within = ltb-true rank w.ranks (and_parts (nat_lt rank w.ranks) _ parts.1).0 in
    let below : (rank - 1) / 2 < w.ranks = omega arith in
    let there = row_parent w ((rank - 1) / 2) rank refl ∙ ap (λ b. cond b (Some (w.number ((rank - 1) / 2))) None) turn in
    along_one (λ from body. record { sender = from; body = body }) (column (tell_row w) rank) w.ranks ((rank - 1) / 2) (w.number ((rank - 1) / 2)) below there (λ from inside other. row_other w from rank (λ e. other (sym e)))

pub heard_nobody : (w : Tellings) (rank : ℕ) → told_down w.ranks w.round rank ≡ false → heard (column (tell_row w) rank) w.ranks ≡ []
heard_nobody w rank quiet =
    along_nothing (λ from body. record { sender = from; body = body }) (column (tell_row w) rank) w.ranks (λ from inside. row_silent w from rank quiet)

pub informed_told : (w : Tellings) (rank : ℕ) → told_down w.ranks w.round rank ≡ true → informed w rank ≡ w.number ((rank - 1) / 2)
unfolding informed
informed_told w rank turn = rw turn refl

pub informed_itself : (w : Tellings) (rank : ℕ) → told_down w.ranks w.round rank ≡ false → informed w rank ≡ w.number rank
unfolding informed
informed_itself w rank quiet = rw quiet refl

-- a rank's stage against its part of the round
module _ (rank ranks round number : ℕ) (w : Tellings) (r : ℕ) (is : IsTelling rank ranks round number w r) where
  turn_here : (b : Bool) → b ≡ told_down ranks round rank → told_down w.ranks w.round r ≡ b
  turn_here b e = sym (rw (is.same_rank, is.same_ranks, is.same_round) at e)

  pub goal_is : (n : ℕ) (turn : Bool) → n ≡ cond turn 1 0 → turn ≡ told_down ranks round rank → n ≡ sum_by (λ (held : Held ℕ). 1) (heard (column (tell_row w) r) w.ranks)
  goal_is n true count turn = count ∙ ap (sum_by (λ (held : Held ℕ). 1)) (sym (heard_parent w r (turn_here true turn)))
  goal_is n false count turn = count ∙ ap (sum_by (λ (held : Held ℕ). 1)) (sym (heard_nobody w r (turn_here false turn)))

  pub says_children : (items mid old : List (ℕ × ℕ)) (x y : Option ℕ) → old ≡ [] → x ≡ first_child ranks rank → y ≡ second_child ranks rank
      → mid ≡ old ++ option_map_or (λ c. cond (told_down ranks round c) ((c, number) ∷ []) []) x [] → items ≡ mid ++ option_map_or (λ c. cond (told_down ranks round c) ((c, number) ∷ []) []) y [] → items ≡ told (tell_row w r) w.ranks
  says_children items mid old x y none first second one two =
      let F : ℕ → ℕ → ℕ → ℕ → Type 0 = λ i n k a. ([] ++ option_map_or (λ c. cond (told_down n k c) ((c, a) ∷ []) []) (first_child n i) []) ++ option_map_or (λ c. cond (told_down n k c) ((c, a) ∷ []) []) (second_child n i) [] ≡ told (tell_row w r) w.ranks in
      let both = subst (λ i. F i ranks round number) (sym is.same_rank) (subst (λ n. F r n round number) (sym is.same_ranks) (subst (λ k. F r w.ranks k number) (sym is.same_round) (subst (λ a. F r w.ranks w.round a) (sym is.same_number) (told_children w r)))) in
      let left = one ∙ ap (λ xs. xs ++ option_map_or (λ c. cond (told_down ranks round c) ((c, number) ∷ []) []) x []) none ∙ ap (λ o. [] ++ option_map_or (λ c. cond (told_down ranks round c) ((c, number) ∷ []) []) o []) first in
      two ∙ ap (λ xs. xs ++ option_map_or (λ c. cond (told_down ranks round c) ((c, number) ∷ []) []) y []) left ∙ ap (λ o. ([] ++ option_map_or (λ c. cond (told_down ranks round c) ((c, number) ∷ []) []) (first_child ranks rank) []) ++ option_map_or (λ c. cond (told_down ranks round c) ((c, number) ∷ []) []) o []) second ∙ both

  pub has_told : (items : List (Held ℕ)) (x : Held ℕ) → items ≡ heard (column (tell_row w) r) w.ranks → Some x ≡ slice_get items 0 → x.body ≡ informed w r
  has_told items x all first = elim (cases_Bool (told_down w.ranks w.round r)) [
    | inl turn ↦
        let same = first ∙ ap (λ xs. slice_get xs 0) (all ∙ heard_parent w r turn) in
        ap (λ h. h.body) (same_Some x _ same) ∙ sym (informed_told w r turn)
    | inr quiet ↦ let none = first ∙ ap (λ xs. slice_get xs 0) (all ∙ heard_nobody w r quiet) in cc
  ]

  pub has_own : (items : List (Held ℕ)) → items ≡ heard (column (tell_row w) r) w.ranks → None ≡ slice_get items 0 → number ≡ informed w r
  has_own items all first = elim (cases_Bool (told_down w.ranks w.round r)) [
    | inl turn ↦ let some = first ∙ ap (λ xs. slice_get xs 0) (all ∙ heard_parent w r turn) in cc
    | inr quiet ↦ is.same_number ∙ sym (informed_itself w r quiet)
  ]

-- A line of a row that has something at two ranks at most.
use Rattle.std.proofs.Common.{◌≡◌, ◌≢◌, ℕ, zero, suc, ◌+◌, ◌<◌, ◌≤◌, List, [], ◌++◌, refl, sym, ap, ◌∙◌, subst, arith, add-one, inl, inr, true, false, cond, ltb, Option, Some, None}
use Rattle.std.specs.List.{cons_option}
use Rattle.std.specs.Option.{option_map}
use Rattle.std.proofs.lemmas.Bool.{cases_eq, cases_lt, lt-ltb, le-ltb}
use Rattle.std.proofs.lemmas.List.{append-nil}
use Rattle.samr_stage.specs.Row.{along}
use Rattle.samr_stage.proofs.Rows.{along_none, along_more, along_no}

module _ {B X : Type 0} (make : ℕ → B → X) where
  -- what a line has at one rank, if that is below n
  abbrev part : (ℕ → Option B) → ℕ → ℕ → List X
  part line i n = cond (ltb i n) (cons_option (option_map (make i) (line i)) []) []

  part_other : (line : ℕ → Option B) (i n : ℕ) → i ≢ n → part line i (n + 1) ≡ part line i n
  part_other line i n other = elim (cases_lt i n) [
    | inl below ↦
        let after : ltb i (n + 1) ≡ true = lt-ltb i (n + 1) (omega arith) in
        let before : ltb i n ≡ true = lt-ltb i n below in rw (after, before) refl
    | inr above ↦
        let after : ltb i (n + 1) ≡ false = le-ltb i (n + 1) (omega arith) in
        let before : ltb i n ≡ false = le-ltb i n above in rw (after, before) refl
  ]

  part_before : (line : ℕ → Option B) (i n : ℕ) → n ≤ i → part line i n ≡ []
  part_before line i n upto = let test : ltb i n ≡ false = le-ltb i n upto in rw test refl

  part_after : (line : ℕ → Option B) (i n : ℕ) → i < n → part line i n ≡ cons_option (option_map (make i) (line i)) []
  part_after line i n below = let test : ltb i n ≡ true = lt-ltb i n below in rw test refl

  -- a line that has something at two ranks at most
  two_parts : (line : ℕ → Option B) (i j n : ℕ) → i < j → ((k : ℕ) → k ≢ i → k ≢ j → line k ≡ None) → along make line n ≡ part line i n ++ part line j n
  two_parts line i j zero apart none =
      along_none make line ∙ sym (ap (λ xs. xs ++ part line j 0) (part_before line i 0 (omega arith)) ∙ part_before line j 0 (omega arith))
  two_parts line i j (suc n) apart none =
      let Family : ℕ → Type 0 = λ m. along make line m ≡ part line i m ++ part line j m in
      let rest = two_parts line i j n apart none in
      subst Family (add-one n) (elim (cases_eq i n) [
        | inl first ↦
            let after : i < n + 1 = omega arith in
            let other : j ≢ n = λ e. omega arith in
            let before : n ≤ i = omega arith in
            let far : n ≤ j = omega arith in
            along_more make line n ∙ ap (λ xs. xs ++ cons_option (option_map (make n) (line n)) []) (rest ∙ ap (λ xs. xs ++ part line j n) (part_before line i n before) ∙ part_before line j n far) ∙ ap (λ k. cons_option (option_map (make k) (line k)) []) (sym first) ∙ sym (part_after line i (n + 1) after) ∙ sym (append-nil (part line i (n + 1))) ∙ ap (λ xs. part line i (n + 1) ++ xs) (sym (part_other line j n other ∙ part_before line j n far))
        | inr elsewhere ↦ elim (cases_eq j n) [
          | inl second ↦
              let after : j < n + 1 = omega arith in
              let before : n ≤ j = omega arith in
              along_more make line n ∙ ap (λ xs. xs ++ cons_option (option_map (make n) (line n)) []) (rest ∙ ap (λ xs. part line i n ++ xs) (part_before line j n before) ∙ append-nil (part line i n) ∙ sym (part_other line i n elsewhere)) ∙ ap (λ k. part line i (n + 1) ++ cons_option (option_map (make k) (line k)) []) (sym second) ∙ ap (λ xs. part line i (n + 1) ++ xs) (sym (part_after line j (n + 1) after))
          | inr nowhere ↦
              along_no make line n (none n (λ e. elsewhere (sym e)) (λ e. nowhere (sym e))) ∙ rest ∙ ap (λ xs. xs ++ part line j n) (sym (part_other line i n elsewhere)) ∙ ap (λ xs. part line i (n + 1) ++ xs) (sym (part_other line j n nowhere))
        ]
      ])

  pub along_two : (line : ℕ → Option B) (i j n : ℕ) → i < j → ((k : ℕ) → k ≢ i → k ≢ j → line k ≡ None) → (n ≤ i → line i ≡ None) → (n ≤ j → line j ≡ None)
      → along make line n ≡ cons_option (option_map (make i) (line i)) [] ++ cons_option (option_map (make j) (line j)) []
  along_two line i j n apart none first second = two_parts line i j n apart none ∙ ap (λ xs. xs ++ part line j n) (whole line i n first) ∙ ap (λ xs. cons_option (option_map (make i) (line i)) [] ++ xs) (whole line j n second)
    where
      whole : (line : ℕ → Option B) (i n : ℕ) → (n ≤ i → line i ≡ None) → part line i n ≡ cons_option (option_map (make i) (line i)) []
      whole line i n past = elim (cases_lt i n) [
        | inl below ↦ part_after line i n below
        | inr above ↦ part_before line i n above ∙ sym (ap (λ o. cons_option (option_map (make i) o) []) (past above))
      ]

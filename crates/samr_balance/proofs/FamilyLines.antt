-- Lines of a row between a rank and its children or its parent.
use Rattle.std.proofs.Common.{◌≡◌, ◌≢◌, ℕ, ◌+◌, ◌-◌, ◌*◌, ◌/◌, ◌<◌, ◌≤◌, List, [], ◌∷◌, ◌++◌, Bool, true, false, ◌&&◌, cond, nat_eq, Option, Some, None, refl, sym, ap, ◌∙◌, arith, sum_by}
use Rattle.std.specs.List.{cons_option}
use Rattle.std.specs.Option.{option_map}
use Rattle.std.proofs.lemmas.Bool.{and_right, eq-eqb, ne_eqb}
use Rattle.std.proofs.lemmas.List.Sums.{sum_by-append}
use Rattle.samr_stage.specs.Row.{along}
use Rattle.samr_stage.proofs.Rows.{along_one, along_nothing}
use Rattle.samr_stage.proofs.Lines.{along_two}

-- ranks above 0 whose turn it is, each with a body
module _ {B X : Type 0} (make : ℕ → B → X) (ranks : ℕ) (turn : ℕ → Bool) (body : ℕ → B) (inside : (k : ℕ) → turn k ≡ true → (0 < k) × (k < ranks)) where
  -- between a rank and its children
  abbrev pub children_line : ℕ → ℕ → Option B
  children_line rank k = cond (turn k && nat_eq ((k - 1) / 2) rank) (Some (body k)) None

  abbrev pub of_child : ℕ → List X
  of_child k = cond (turn k) (make k (body k) ∷ []) []

  quiet : (k : ℕ) → ranks ≤ k → turn k ≡ false
  quiet k past = by (turn k) refl
    where
      by : (t : Bool) → turn k ≡ t → turn k ≡ false
      by true e = let h = inside k e in absurd (omega (arith, h, past))
      by false e = e

  silent : (rank k : ℕ) → turn k ≡ false → children_line rank k ≡ None
  silent rank k e = rw e refl

  stranger : (rank k : ℕ) → k ≢ 2 * rank + 1 → k ≢ 2 * rank + 2 → children_line rank k ≡ None
  stranger rank k first second = by (turn k) refl
    where
      by : (t : Bool) → turn k ≡ t → children_line rank k ≡ None
      by true e =
          let h = inside k e in
          let test : (turn k && nat_eq ((k - 1) / 2) rank) ≡ false = and_right (turn k) (nat_eq ((k - 1) / 2) rank) (ne_eqb ((k - 1) / 2) rank (λ same. omega (arith, first, second, same, h))) in rw test refl
      by false e = silent rank k e

  here : (rank k : ℕ) → (k - 1) / 2 ≡ rank → cons_option {X = X} (option_map (make k) (children_line rank k)) [] ≡ of_child k
  here rank k same = by (turn k) refl
    where
      test : nat_eq ((k - 1) / 2) rank ≡ true
      test = eq-eqb _ _ same

      by : (t : Bool) → turn k ≡ t → cons_option {X = X} (option_map (make k) (children_line rank k)) [] ≡ of_child k
      by true e = rw (e, test) refl
      by false e = rw e refl

  pub along_children : (rank : ℕ) → along make (children_line rank) ranks ≡ of_child (2 * rank + 1) ++ of_child (2 * rank + 2)
  along_children rank =
      along_two make (children_line rank) (2 * rank + 1) (2 * rank + 2) ranks (omega arith) (stranger rank)
      (λ past. silent rank (2 * rank + 1) (quiet (2 * rank + 1) past)) (λ past. silent rank (2 * rank + 2) (quiet (2 * rank + 2) past))
      ∙ ap (λ xs. xs ++ cons_option {X = X} (option_map (make (2 * rank + 2)) (children_line rank (2 * rank + 2))) []) (here rank (2 * rank + 1) (omega arith))
      ∙ ap (λ xs. of_child (2 * rank + 1) ++ xs) (here rank (2 * rank + 2) (omega arith))

  -- between a rank and its parent
  abbrev pub parent_line : ℕ → ℕ → Option B
  parent_line rank k = cond (turn rank && nat_eq ((rank - 1) / 2) k) (Some (body rank)) None

  pub along_nobody : (rank : ℕ) → turn rank ≡ false → along make (parent_line rank) ranks ≡ []
  along_nobody rank e = along_nothing make (parent_line rank) ranks (λ k below. rw e refl)

  pub along_parent : (rank : ℕ) → turn rank ≡ true → along make (parent_line rank) ranks ≡ make ((rank - 1) / 2) (body rank) ∷ []
  along_parent rank e =
      let h = inside rank e in
      let below : (rank - 1) / 2 < ranks = omega (arith, h) in
      let test : nat_eq ((rank - 1) / 2) ((rank - 1) / 2) ≡ true = eq-eqb _ _ refl in
      let there : parent_line rank ((rank - 1) / 2) ≡ Some (body rank) = rw (e, test) refl in
      along_one make (parent_line rank) ranks ((rank - 1) / 2) (body rank) below there
      (λ k within other. let no : (turn rank && nat_eq ((rank - 1) / 2) k) ≡ false = and_right (turn rank) (nat_eq ((rank - 1) / 2) k) (ne_eqb ((rank - 1) / 2) k (λ same. other (sym same))) in rw no refl)

  pub count_children : (rank : ℕ) → sum_by (λ (x : X). 1) (along make (children_line rank) ranks) ≡ cond {A = ℕ} (turn (2 * rank + 1)) 1 0 + cond (turn (2 * rank + 2)) 1 0
  count_children rank =
      ap (sum_by (λ (x : X). 1)) (along_children rank)
      ∙ sum_by-append (λ (x : X). 1) (of_child (2 * rank + 1)) (of_child (2 * rank + 2))
      ∙ ap (λ n. n + sum_by (λ (x : X). 1) (of_child (2 * rank + 2))) (one (2 * rank + 1))
      ∙ ap (λ n. cond (turn (2 * rank + 1)) 1 0 + n) (one (2 * rank + 2))
    where
      one : (k : ℕ) → sum_by (λ (x : X). 1) (of_child k) ≡ cond (turn k) 1 0
      one k = by (turn k)
        where
          by : (t : Bool) → sum_by (λ (x : X). 1) (cond t (make k (body k) ∷ []) []) ≡ cond t 1 0
          by true = refl
          by false = refl

  pub count_parent : (rank : ℕ) (t : Bool) → turn rank ≡ t → sum_by (λ (x : X). 1) (along make (parent_line rank) ranks) ≡ cond {A = ℕ} t 1 0
  count_parent rank true e = ap (sum_by (λ (x : X). 1)) (along_parent rank e)
  count_parent rank false e = ap (sum_by (λ (x : X). 1)) (along_nobody rank e)

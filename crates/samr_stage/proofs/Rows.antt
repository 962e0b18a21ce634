-- The lines of a row: what they have below one more rank, what is among it, and how much it is.
use Rattle.std.proofs.Common.{◌≡◌, ◌≢◌, ℕ, zero, suc, ◌+◌, ◌<◌, List, [], ◌∷◌, ◌++◌, refl, sym, ap, ◌∙◌, subst, arith, add-one, inl, inr, Contains, Option, Some, None, sum_by}
use Rattle.std.specs.List.{range_with_len, filter_map, cons_option}
use Rattle.std.specs.Option.{option_map}
use Rattle.std.proofs.lemmas.Bool.{cases_eq}
use Rattle.std.proofs.lemmas.List.{append-nil, map-id}
use Rattle.std.proofs.lemmas.List.Elements.{filter_map-append, Contains-append_left, Contains-push, Contains-append_cases}
use Rattle.std.proofs.lemmas.List.FromFn.{map-range_with_len_more}
use Rattle.std.proofs.lemmas.List.Sums.{sum_by-append}
use Rattle.samr_stage.specs.Row.{along}

-- the numbers below n + 1
range_more : (n : ℕ) → range_with_len 0 (n + 1) ≡ range_with_len 0 n ++ n ∷ []
range_more n =
    sym (map-id (range_with_len 0 (n + 1))) ∙ map-range_with_len_more (λ k. k) 0 n n (omega arith) ∙ ap (λ ks. ks ++ n ∷ []) (map-id (range_with_len 0 n))

module _ {B X : Type 0} (make : ℕ → B → X) where
  pub along_more : (line : ℕ → Option B) (n : ℕ) → along make line (n + 1) ≡ along make line n ++ cons_option (option_map (make n) (line n)) []
  unfolding along
  along_more line n =
      ap (filter_map (λ k. option_map (make k) (line k))) (range_more n) ∙ filter_map-append (λ k. option_map (make k) (line k)) (range_with_len 0 n) (n ∷ [])

  -- a line below one more rank, where it has something there, and where it has nothing
  pub along_yes : (line : ℕ → Option B) (n : ℕ) (b : B) → line n ≡ Some b → along make line (n + 1) ≡ along make line n ++ make n b ∷ []
  along_yes line n b here =
      along_more line n ∙ ap (λ o. along make line n ++ cons_option (option_map (make n) o) []) here

  pub along_no : (line : ℕ → Option B) (n : ℕ) → line n ≡ None → along make line (n + 1) ≡ along make line n
  along_no line n here =
      along_more line n ∙ ap (λ o. along make line n ++ cons_option (option_map (make n) o) []) here ∙ append-nil (along make line n)

  pub along_none : (line : ℕ → Option B) → along make line 0 ≡ []
  unfolding along
  along_none line = refl

  -- lines that are the same below n
  pub along_same : (line other : ℕ → Option B) (n : ℕ) → ((k : ℕ) → k < n → line k ≡ other k) → along make line n ≡ along make other n
  along_same line other zero same = along_none line ∙ sym (along_none other)
  along_same line other (suc n) same =
      let Family : ℕ → Type 0 = λ m. along make line m ≡ along make other m in
      let rest = along_same line other n (λ k below. same k (omega arith)) in
      let here : line n ≡ other n = same n (omega arith) in
      subst Family (add-one n) (along_more line n ∙ ap (λ xs. xs ++ cons_option (option_map (make n) (line n)) []) rest ∙ ap (λ o. along make other n ++ cons_option (option_map (make n) o) []) here ∙ sym (along_more other n))

  -- a line that has nothing, and one that has one thing
  pub along_nothing : (line : ℕ → Option B) (n : ℕ) → ((k : ℕ) → k < n → line k ≡ None) → along make line n ≡ []
  along_nothing line zero none = along_none line
  along_nothing line (suc n) none =
      let Family : ℕ → Type 0 = λ m. along make line m ≡ [] in
      subst Family (add-one n) (along_no line n (none n (omega arith)) ∙ along_nothing line n (λ k below. none k (omega arith)))

  pub along_one : (line : ℕ → Option B) (n i : ℕ) (b : B) → i < n → line i ≡ Some b → ((k : ℕ) → k < n → k ≢ i → line k ≡ None) → along make line n ≡ make i b ∷ []
  along_one line zero i b within here none = absurd (omega arith)
  along_one line (suc n) i b within here none =
      let Family : ℕ → Type 0 = λ m. along make line m ≡ make i b ∷ [] in
      subst Family (add-one n) (elim (cases_eq i n) [
        | inl same ↦
            let there : line n ≡ Some b = ap line (sym same) ∙ here in
            along_yes line n b there ∙ ap (λ xs. xs ++ make n b ∷ []) (along_nothing line n (λ k below. none k (omega arith) (λ e. omega arith))) ∙ ap (λ k. make k b ∷ []) (sym same)
        | inr other ↦
            along_no line n (none n (omega arith) (λ e. other (sym e))) ∙ along_one line n i b (omega arith) here (λ k below differs. none k (omega arith) differs)
      ])

  -- what a line has at a rank below n is among it
  pub along_in : (line : ℕ → Option B) (n k : ℕ) (b : B) → k < n → line k ≡ Some b → Contains (along make line n) (make k b)
  along_in line zero k b below here = absurd (omega arith)
  along_in line (suc n) k b below here =
      let Family : ℕ → Type 0 = λ m. Contains (along make line m) (make k b) in
      let Among : List X → Type 0 = λ xs. Contains xs (make k b) in
      subst Family (add-one n) (elim (cases_eq k n) [
        | inl same ↦
            let there : line n ≡ Some b = ap line (sym same) ∙ here in
            let IsIn : ℕ → Type 0 = λ m. Contains (along make line n ++ make n b ∷ []) (make m b) in
            subst Among (sym (along_yes line n b there)) (subst IsIn (sym same) (Contains-push (along make line n) (make n b)))
        | inr other ↦
            subst Among (sym (along_more line n)) (Contains-append_left (along make line n) _ (make k b) (along_in line n k b (omega arith) here))
      ])

  from_option : (x : X) (n : ℕ) (o : Option B) → Contains (cons_option (option_map (make n) o) []) x → (b : B) × (o ≡ Some b) × (make n b ≡ x)
  from_option x n None c = absurd (let within = c.1 in omega arith)
  from_option x n (Some b) (zero, within, is) = (b, refl, is)
  from_option x n (Some b) (suc k, within, is) = absurd (omega arith)

  -- and all that is among it is what it has at such a rank
  pub along_out : (line : ℕ → Option B) (n : ℕ) (x : X) → Contains (along make line n) x → (k : ℕ) × (b : B) × (k < n) × (line k ≡ Some b) × (make k b ≡ x)
  along_out line zero x c = let d = subst (λ xs. Contains xs x) (along_none line) c in let within = d.1 in absurd (omega arith)
  along_out line (suc n) x c =
      let Family : ℕ → Type 0 = λ m. Contains (along make line m) x in
      let there = subst (λ xs. Contains xs x) (along_more line n) (subst Family (sym (add-one n)) c) in
      elim (Contains-append_cases (along make line n) _ x there) [
        | inl before ↦ let found = along_out line n x before in let below = found.2 in (found.0, found.1, omega arith, found.3, found.4)
        | inr last ↦ let found = from_option x n (line n) last in (n, found.0, omega arith, found.1, found.2)
      ]

-- the sum along two lines that have as much at each rank
pub sum_along : {B C X Y : Type 0} (make : ℕ → B → X) (fit : ℕ → C → Y) (weight : X → ℕ) (load : Y → ℕ) (line : ℕ → Option B) (other : ℕ → Option C) (n : ℕ)
    → ((k : ℕ) → k < n → sum_by weight (cons_option (option_map (make k) (line k)) []) ≡ sum_by load (cons_option (option_map (fit k) (other k)) []))
    → sum_by weight (along make line n) ≡ sum_by load (along fit other n)
sum_along make fit weight load line other zero same = rw (along_none make line, along_none fit other) refl
sum_along make fit weight load line other (suc n) same =
    let Family : ℕ → Type 0 = λ m. sum_by weight (along make line m) ≡ sum_by load (along fit other m) in
    let rest = sum_along make fit weight load line other n (λ k below. same k (omega arith)) in
    let here = same n (omega arith) in
    let left = ap (sum_by weight) (along_more make line n) ∙ sum_by-append weight (along make line n) (cons_option (option_map (make n) (line n)) []) in
    let right = ap (sum_by load) (along_more fit other n) ∙ sum_by-append load (along fit other n) (cons_option (option_map (fit n) (other n)) []) in
    subst Family (add-one n) (left ∙ ap (λ a. a + sum_by weight (cons_option (option_map (make n) (line n)) [])) rest ∙ ap (λ b. sum_by load (along fit other n) + b) here ∙ sym right)

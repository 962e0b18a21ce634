-- Sums over the ranks below a number.
use Rattle.std.proofs.Common.{◌≡◌, ◌≢◌, ℕ, zero, suc, ◌+◌, ◌<◌, ◌≤◌, List, [], ◌∷◌, ◌++◌, length, slice_index, refl, sym, ap, ◌∙◌, subst, arith, add-one, inl, inr, sum, sum_by, Option, Some, None, unwrap_or}
use Rattle.std.specs.List.{range_with_len, cons_option}
use Rattle.std.specs.Option.{option_map}
use Rattle.std.proofs.lemmas.Bool.{cases_eq}
use Rattle.std.proofs.lemmas.List.{map-id}
use Rattle.std.proofs.lemmas.List.FromFn.{map-range_with_len_more}
use Rattle.std.proofs.lemmas.List.Sums.{sum_by-append, sum_by-cons, sum_by_push}
use Rattle.samr_stage.specs.declared.stage.Held.{Held}
use Rattle.samr_stage.specs.Row.{heard}
use Rattle.samr_stage.proofs.Rows.{along_none, along_more}

-- the numbers below n + 1
range_more : (n : ℕ) → range_with_len 0 (n + 1) ≡ range_with_len 0 n ++ n ∷ []
range_more n =
    sym (map-id (range_with_len 0 (n + 1))) ∙ map-range_with_len_more (λ k. k) 0 n n (omega arith) ∙ ap (λ ks. ks ++ n ∷ []) (map-id (range_with_len 0 n))

-- the sum of what each rank below n has
unfoldable pub total : (ℕ → ℕ) → ℕ → ℕ
total f n = sum_by f (range_with_len 0 n)

total_none : (f : ℕ → ℕ) → total f 0 ≡ 0
unfolding total
total_none f = refl

pub total_more : (f : ℕ → ℕ) (n : ℕ) → total f (n + 1) ≡ total f n + f n
unfolding total
total_more f n = ap (sum_by f) (range_more n) ∙ sum_by_push f (range_with_len 0 n) n

pub total_same : (f g : ℕ → ℕ) (n : ℕ) → ((k : ℕ) → k < n → f k ≡ g k) → total f n ≡ total g n
total_same f g zero same = total_none f ∙ sym (total_none g)
total_same f g (suc n) same =
    let Family : ℕ → Type 0 = λ m. total f m ≡ total g m in
    subst Family (add-one n) (omega (arith, total_more f n, total_more g n, total_same f g n (λ k below. same k (omega arith)), same n (omega arith)))

pub total_plus : (f g : ℕ → ℕ) (n : ℕ) → total (λ k. f k + g k) n ≡ total f n + total g n
total_plus f g zero = omega (arith, total_none (λ k. f k + g k), total_none f, total_none g)
total_plus f g (suc n) =
    let Family : ℕ → Type 0 = λ m. total (λ k. f k + g k) m ≡ total f m + total g m in
    subst Family (add-one n) (omega (arith, total_more (λ k. f k + g k) n, total_more f n, total_more g n, total_plus f g n))

pub total_zero : (f : ℕ → ℕ) (n : ℕ) → ((k : ℕ) → k < n → f k ≡ 0) → total f n ≡ 0
total_zero f zero none = total_none f
total_zero f (suc n) none =
    let Family : ℕ → Type 0 = λ m. total f m ≡ 0 in
    subst Family (add-one n) (omega (arith, total_more f n, total_zero f n (λ k below. none k (omega arith)), none n (omega arith)))

-- where one rank alone has something
pub total_one : (f : ℕ → ℕ) (n i : ℕ) → i < n → ((k : ℕ) → k < n → k ≢ i → f k ≡ 0) → total f n ≡ f i
total_one f zero i within none = absurd (omega arith)
total_one f (suc n) i within none =
    let Family : ℕ → Type 0 = λ m. total f m ≡ f i in
    subst Family (add-one n) (elim (cases_eq i n) [
      | inl same ↦
          let rest = total_zero f n (λ k below. none k (omega arith) (λ e. omega arith)) in
          omega (arith, total_more f n, rest, ap f same)
      | inr other ↦
          let rest = total_one f n i (omega arith) (λ k below differs. none k (omega arith) differs) in
          omega (arith, total_more f n, rest, none n (omega arith) (λ e. other (sym e)))
    ])

-- what one rank has is no more than what all have
pub total-ge : (f : ℕ → ℕ) (n i : ℕ) → i < n → f i ≤ total f n
total-ge f zero i within = absurd (omega arith)
total-ge f (suc n) i within =
    let Family : ℕ → Type 0 = λ m. f i ≤ total f m in
    subst Family (add-one n) (elim (cases_eq i n) [
      | inl same ↦ omega (arith, total_more f n, ap f same)
      | inr other ↦ omega (arith, total_more f n, total-ge f n i (omega arith))
    ])

-- the sum over two ranks, either first
pub total_swap : (f : ℕ → ℕ → ℕ) (m n : ℕ) → total (λ i. total (λ j. f i j) n) m ≡ total (λ j. total (λ i. f i j) m) n
total_swap f zero n =
    total_none (λ i. total (λ j. f i j) n) ∙ sym (total_zero (λ j. total (λ i. f i j) 0) n (λ j below. total_none (λ i. f i j)))
total_swap f (suc m) n =
    let Family : ℕ → Type 0 = λ k. total (λ i. total (λ j. f i j) n) k ≡ total (λ j. total (λ i. f i j) k) n in
    let last = total_same (λ j. total (λ i. f i j) (m + 1)) (λ j. total (λ i. f i j) m + f m j) n (λ j below. total_more (λ i. f i j) m) in
    subst Family (add-one m) (omega (arith, total_more (λ i. total (λ j. f i j) n) m, total_swap f m n, last, total_plus (λ j. total (λ i. f i j) m) (λ j. f m j) n))

-- the sum of a list is the sum of what stands at each place
pub total_list : (values : List ℕ) → total (λ k. slice_index values k) (length values) ≡ sum values
unfolding total
total_list values = from_list values 0 (λ k. slice_index values k) (λ k. let e : 0 + k ≡ k = omega arith in ap (slice_index values) e)
  where
    from_list : (xs : List ℕ) (a : ℕ) (f : ℕ → ℕ) → ((k : ℕ) → f (a + k) ≡ slice_index xs k) → sum_by f (range_with_len a (length xs)) ≡ sum xs
    from_list [] a f same = refl
    from_list (x ∷ xs) a f same =
        let rest = from_list xs (a + 1) f (λ k. let e : a + 1 + k ≡ a + suc k = omega arith in ap f e ∙ same (suc k)) in
        let first : f a ≡ x = (let e : a ≡ a + 0 = omega arith in ap f e ∙ same 0) in
        omega (arith, sum_by-cons f a (range_with_len (a + 1) (length xs)), sum_by-cons (λ y. y) x xs, rest, first)

-- what a rank hears adds up to what each rank has for it
pub total_heard : (line : ℕ → Option ℕ) (n : ℕ) → sum_by (λ (held : Held ℕ). held.body) (heard line n) ≡ total (λ from. unwrap_or (line from) 0) n
total_heard line zero =
    ap (sum_by (λ (held : Held ℕ). held.body)) (along_none (λ from body. record { sender = from; body = body }) line) ∙ sym (total_none (λ from. unwrap_or (line from) 0))
total_heard line (suc n) =
    let Family : ℕ → Type 0 = λ m. sum_by (λ (held : Held ℕ). held.body) (heard line m) ≡ total (λ from. unwrap_or (line from) 0) m in
    subst Family (add-one n) (ap (sum_by (λ (held : Held ℕ). held.body)) (along_more (λ from body. record { sender = from; body = body }) line n) ∙ sum_by-append (λ (held : Held ℕ). held.body) (heard line n) _ ∙ ap (λ k. k + sum_by (λ (held : Held ℕ). held.body) (cons_option (option_map (λ body. record { sender = n; body = body }) (line n)) [])) (total_heard line n) ∙ ap (λ k. total (λ from. unwrap_or (line from) 0) n + k) (last (line n)) ∙ sym (total_more (λ from. unwrap_or (line from) 0) n))
  where
    last : (o : Option ℕ) → sum_by (λ (held : Held ℕ). held.body) (cons_option (option_map (λ body. record { sender = n; body = body }) o) []) ≡ unwrap_or o 0
    last None = refl
    last (Some body) = omega arith

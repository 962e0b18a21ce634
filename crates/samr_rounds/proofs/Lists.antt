-- Tests, sums and members of lists.
use Rattle.std.proofs.Common.{◌≡◌, ℕ, zero, suc, ◌+◌, ◌<◌, ◌≤◌, Bool, true, false, List, [], ◌∷◌, refl, sym, ap, ◌∙◌, inl, inr, arith}
use Rattle.std.proofs.lemmas.Bool.{false≢true, or_cases, or_left, or_right, eqb-true, eqb-false}
use Rattle.std.proofs.lemmas.List.Folds.{list_any-append}
use Rattle.std.proofs.lemmas.List.Sums.{sum_by-cons}
use Rattle.std.specs.Prelude.{nat_eq, cond, filter, map, sum_by, ◌||◌}
use Rattle.std.specs.List.{flat_map, list_any, range_with_len}
use Rattle.samr_box.specs.Lists.{Member}
use Rattle.samr_bits.specs.Bits.{one}

module _ {X : Type 0} where
  pub any_more : (f g : X → Bool) (xs : List X) → ((x : X) → f x ≡ true → g x ≡ true) → list_any f xs ≡ true → list_any g xs ≡ true
  any_more f g [] less t = absurd (false≢true t)
  any_more f g (x ∷ xs) less t =
      elim (or_cases (f x) (list_any f xs) t) [
        | inl here ↦ or_left (g x) (list_any g xs) (less x here)
        | inr later ↦ or_right (g x) (list_any g xs) (any_more f g xs less later)
      ]

  pub any_member : (p : X → Bool) (x : X) (xs : List X) → Member x xs → p x ≡ true → list_any p xs ≡ true
  any_member p x [] m t = absurd m
  any_member p x (y ∷ xs) (inl e) t = or_left (p y) (list_any p xs) (ap p (sym e) ∙ t)
  any_member p x (y ∷ xs) (inr m) t = or_right (p y) (list_any p xs) (any_member p x xs m t)

  pub member_any : (p : X → Bool) (xs : List X) → list_any p xs ≡ true → (x : X) × Member x xs × (p x ≡ true)
  member_any p [] t = absurd (false≢true t)
  member_any p (x ∷ xs) t =
      elim (or_cases (p x) (list_any p xs) t) [
        | inl here ↦ (x, inl refl, here)
        | inr later ↦ let r = member_any p xs later in (r.0, inr r.1, r.2)
      ]

module _ {X Y : Type 0} (test : Y → Bool) where
  pub any_map : (f : X → Y) (xs : List X) → list_any test (map f xs) ≡ list_any (λ x. test (f x)) xs
  any_map f [] = refl
  any_map f (x ∷ xs) = ap (λ v. test (f x) || v) (any_map f xs)

  pub any_flat_map : (f : X → List Y) (xs : List X) → list_any test (flat_map f xs) ≡ list_any (λ x. list_any test (f x)) xs
  any_flat_map f [] = refl
  any_flat_map f (x ∷ xs) = list_any-append test (f x) (flat_map f xs) ∙ ap (λ v. list_any test (f x) || v) (any_flat_map f xs)

-- sums over lists
module _ {X : Type 0} where
  pub sum_zero : (f : X → ℕ) (xs : List X) → ((x : X) → Member x xs → f x ≡ 0) → sum_by f xs ≡ 0
  sum_zero f [] none = refl
  sum_zero f (x ∷ xs) none = omega (arith, sum_by-cons f x xs, none x (inl refl), sum_zero f xs (λ y m. none y (inr m)))

  filter_sum : (f : X → ℕ) (x : X) (rest kept : List X) (v : Bool) → (v ≡ false → f x ≡ 0) → sum_by f kept ≡ sum_by f rest → sum_by f (cond v (x ∷ kept) kept) ≡ sum_by f (x ∷ rest)
  filter_sum f x rest kept true none e = omega (arith, sum_by-cons f x kept, sum_by-cons f x rest, e)
  filter_sum f x rest kept false none e = omega (arith, sum_by-cons f x rest, e, none refl)

  pub sum_filter : (p : X → Bool) (f : X → ℕ) (xs : List X) → ((x : X) → p x ≡ false → f x ≡ 0) → sum_by f (filter p xs) ≡ sum_by f xs
  sum_filter p f [] none = refl
  sum_filter p f (x ∷ xs) none = filter_sum f x xs (filter p xs) (p x) (none x) (sum_filter p f xs none)

pub sum_map : {X Y : Type 0} (f : Y → ℕ) (g : X → Y) (xs : List X) → sum_by f (map g xs) ≡ sum_by (λ x. f (g x)) xs
sum_map f g [] = refl
sum_map f g (x ∷ xs) = omega (arith, sum_by-cons f (g x) (map g xs), sum_by-cons (λ y. f (g y)) x xs, sum_map f g xs)

-- ranges of numbers
pub Member-range : (n a k : ℕ) → a ≤ k → k < a + n → Member k (range_with_len a n)
Member-range zero a k low high = absurd (omega (arith, low, high))
Member-range (suc n) a k low high = by_test (nat_eq k a) refl (λ differs. Member-range n (a + 1) k (omega (arith, low, differs)) (omega (arith, high)))
  where
    by_test : (v : Bool) → nat_eq k a ≡ v → ((k ≡ a → ⊥) → Member k (range_with_len (a + 1) n)) → Member k (range_with_len a (suc n))
    by_test true e later = inl (eqb-true k a e)
    by_test false e later = inr (later (eqb-false k a e))

pub Member-from_range : (n a k : ℕ) → Member k (range_with_len a n) → (a ≤ k) × (k < a + n)
Member-from_range zero a k m = absurd m
Member-from_range (suc n) a k (inl e) = (omega (arith, e), omega (arith, e))
Member-from_range (suc n) a k (inr m) = let r = Member-from_range n (a + 1) k m in (omega (arith, r.0), omega (arith, r.1))

pub nat_eq_self : (a : ℕ) → nat_eq a a ≡ true
nat_eq_self a = by_test (nat_eq a a) refl
  where
    by_test : (v : Bool) → nat_eq a a ≡ v → v ≡ true
    by_test true e = refl
    by_test false e = absurd (eqb-false a a e refl)

-- one number of a range is a given one
pub one_differs : (r o : ℕ) → (r ≡ o → ⊥) → one (nat_eq r o) ≡ 0
one_differs r o differs = by_test (nat_eq r o) refl
  where
    by_test : (v : Bool) → nat_eq r o ≡ v → one v ≡ 0
    by_test true e = absurd (differs (eqb-true r o e))
    by_test false e = refl

none_before : (o n a : ℕ) → o < a → sum_by (λ r. one (nat_eq r o)) (range_with_len a n) ≡ 0
none_before o n a less =
    sum_zero (λ r. one (nat_eq r o)) (range_with_len a n) (λ r m. let low = (Member-from_range n a r m).0 in one_differs r o (λ e. omega (arith, e, less, low)))

pub one_of_range : (o n a : ℕ) → a ≤ o → o < a + n → sum_by (λ r. one (nat_eq r o)) (range_with_len a n) ≡ 1
one_of_range o zero a low high = absurd (omega (arith, low, high))
one_of_range o (suc n) a low high = by_test (nat_eq a o) refl (λ differs. one_of_range o n (a + 1) (omega (arith, low, differs)) (omega (arith, high)))
  where
    by_test : (v : Bool) → nat_eq a o ≡ v → ((a ≡ o → ⊥) → sum_by (λ r. one (nat_eq r o)) (range_with_len (a + 1) n) ≡ 1)
        → sum_by (λ r. one (nat_eq r o)) (range_with_len a (suc n)) ≡ 1
    by_test true e later =
        let same = eqb-true a o e in
        let here : one (nat_eq a o) ≡ 1 = ap one e in
        omega (arith, sum_by-cons (λ r. one (nat_eq r o)) a (range_with_len (a + 1) n), here, none_before o n (a + 1) (omega (arith, same)))
    by_test false e later =
        let here : one (nat_eq a o) ≡ 0 = ap one e in
        omega (arith, sum_by-cons (λ r. one (nat_eq r o)) a (range_with_len (a + 1) n), here, later (eqb-false a o e))

pub map_below : {X : Type 0} (f g : ℕ → X) (n a : ℕ) → ((p : ℕ) → a ≤ p → p < a + n → f p ≡ g p) → map f (range_with_len a n) ≡ map g (range_with_len a n)
map_below f g zero a same = refl
map_below f g (suc n) a same =
    ap (λ v. v ∷ map f (range_with_len (a + 1) n)) (same a (omega arith) (omega arith))
    ∙ ap (λ l. g a ∷ l) (map_below f g n (a + 1) (λ p low high. same p (omega (arith, low)) (omega (arith, high))))

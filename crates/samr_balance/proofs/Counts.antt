-- Sums over lists, sorted ones too: two lists of which all sums are the same are the same once sorted.
use Rattle.std.proofs.Common.{◌≡◌, ℕ, ◌+◌, ◌<◌, refl, sym, ap, ◌∙◌, inl, inr, arith}
use Rattle.std.proofs.lemmas.Bool.{cond_both, false≢true}
use Rattle.std.proofs.lemmas.Cmp.{tied_itself}
use Rattle.std.proofs.lemmas.List.Sums.{sum_by-cons, sum_by-append}
use Rattle.std.specs.Prelude.{Bool, true, false, cond, List, [], ◌∷◌, map, filter, sum_by}
use Rattle.std.specs.List.{flat_map}
use Rattle.std.specs.Ordering.{is_le, is_gt, is_eq, ordering_reverse}
use Rattle.std.specs.Cmp.{IsTotalOrder}
use Rattle.std.specs.declared.cmp.Ordering.{Ordering}
use Rattle.std.specs.declared.cmp.Ordering.TheVariants.{Less, Equal, Greater}
use Rattle.samr_box.specs.Lists.{Member}
use Rattle.samr_load.specs.Pieces.{put_in, sorted}
use Rattle.samr_load.proofs.Sorts.{Rises, sorted_rises}

module _ {X : Type 0} (f : X → ℕ) (cmp : X → X → Ordering) where
  sum-put_in : (x : X) (ys : List X) → sum_by f (put_in cmp x ys) ≡ f x + sum_by f ys
  sum-put_in x [] = sum_by-cons f x []
  sum-put_in x (y ∷ ys) =
      cond_both (is_le (cmp x y)) (x ∷ y ∷ ys) (y ∷ put_in cmp x ys) (λ l. sum_by f l ≡ f x + sum_by f (y ∷ ys))
      (λ _. sum_by-cons f x (y ∷ ys))
      (λ _. omega (arith, sum_by-cons f y (put_in cmp x ys), sum-put_in x ys, sum_by-cons f y ys))

  pub sum-sorted : (xs : List X) → sum_by f (sorted cmp xs) ≡ sum_by f xs
  unfolding sorted
  sum-sorted [] = refl
  sum-sorted (x ∷ xs) = omega (arith, sum-put_in x (sorted cmp xs), sum-sorted xs, sum_by-cons f x xs)

pub sum-map : {X Y : Type 0} (f : Y → ℕ) (g : X → Y) (xs : List X) → sum_by f (map g xs) ≡ sum_by (λ x. f (g x)) xs
sum-map f g [] = refl
sum-map f g (x ∷ xs) = omega (arith, sum_by-cons f (g x) (map g xs), sum-map f g xs, sum_by-cons (λ x. f (g x)) x xs)

pub sum-filter : {X : Type 0} (f : X → ℕ) (test : X → Bool) (xs : List X) → sum_by f (filter test xs) ≡ sum_by (λ x. cond (test x) (f x) 0) xs
sum-filter f test [] = refl
sum-filter {X} f test (x ∷ xs) = by_test (test x) refl (sum-filter f test xs)
  where
    by_test : (t : Bool) → test x ≡ t → sum_by f (filter test xs) ≡ sum_by (λ (y : X). cond (test y) (f y) 0) xs → sum_by f (cond t (x ∷ filter test xs) (filter test xs)) ≡ sum_by (λ (y : X). cond (test y) (f y) 0) (x ∷ xs)
    by_test true e rest =
        let here = ap (λ (t : Bool). cond {A = ℕ} t (f x) 0) e in
        omega (arith, sum_by-cons f x (filter test xs), rest, sum_by-cons (λ (y : X). cond (test y) (f y) 0) x xs, here)
    by_test false e rest =
        let here = ap (λ (t : Bool). cond {A = ℕ} t (f x) 0) e in
        omega (arith, rest, sum_by-cons (λ (y : X). cond (test y) (f y) 0) x xs, here)

pub sum-same : {X : Type 0} (f g : X → ℕ) (xs : List X) → ((x : X) → f x ≡ g x) → sum_by f xs ≡ sum_by g xs
sum-same f g [] same = refl
sum-same f g (x ∷ xs) same = omega (arith, sum_by-cons f x xs, sum_by-cons g x xs, same x, sum-same f g xs same)

pub sum-flat_map : {X Y : Type 0} (f : Y → ℕ) (g : X → List Y) (xs : List X) → sum_by f (flat_map g xs) ≡ sum_by (λ x. sum_by f (g x)) xs
sum-flat_map f g [] = refl
sum-flat_map f g (x ∷ xs) = omega (arith, sum_by-append f (g x) (flat_map g xs), sum-flat_map f g xs, sum_by-cons (λ x. sum_by f (g x)) x xs)

not_equal_both : (t q : Ordering) → t ≡ ordering_reverse q → is_gt t ≡ false → is_gt q ≡ false → t ≡ Equal
not_equal_both t Less e f g = absurd (false≢true (sym f ∙ ap is_gt e))
not_equal_both t Equal e f g = e
not_equal_both t Greater e f g = absurd (false≢true (sym g))

pub is_equal : (t : Ordering) → is_eq t ≡ true → t ≡ Equal
is_equal Less e = absurd (false≢true e)
is_equal Equal e = refl
is_equal Greater e = absurd (false≢true e)

module _ {X : Type 0} (R : X → X → Ordering) (o : IsTotalOrder R) (same : (a b : X) → R a b ≡ Equal → a ≡ b) where
  -- how often x is in a list
  is_x : X → X → ℕ
  is_x x y = cond (is_eq (R x y)) 1 0

  member_from_count : (x : X) (xs : List X) → 0 < sum_by (is_x x) xs → Member x xs
  unfolding is_x
  member_from_count x [] h = absurd (omega (arith, h))
  member_from_count x (y ∷ ys) h = by_test (is_eq (R x y)) refl (sum_by-cons (is_x x) y ys) (λ p. member_from_count x ys p)
    where
      by_test : (t : Bool) → is_eq (R x y) ≡ t → sum_by (is_x x) (y ∷ ys) ≡ cond (is_eq (R x y)) 1 0 + sum_by (is_x x) ys
          → (0 < sum_by (is_x x) ys → Member x ys) → Member x (y ∷ ys)
      by_test true e c later = inl (same x y (is_equal (R x y) e))
      by_test false e c later =
          let none : cond {A = ℕ} (is_eq (R x y)) 1 0 ≡ 0 = ap (λ t. cond {A = ℕ} t 1 0) e in
          inr (later (omega (arith, h, c, none)))

  count_of_head : (x : X) (xs : List X) → 0 < sum_by (is_x x) (x ∷ xs)
  unfolding is_x
  count_of_head x xs =
      let here : cond {A = ℕ} (is_eq (R x x)) 1 0 ≡ 1 = ap (λ t. cond {A = ℕ} (is_eq t) 1 0) (tied_itself o x) in
      omega (arith, sum_by-cons (is_x x) x xs, here)

  same_heads : (x y : X) (xs ys : List X) → Rises R o (x ∷ xs) → Rises R o (y ∷ ys) → Member x (y ∷ ys) → Member y (x ∷ xs) → x ≡ y
  unfolding Rises
  same_heads x y xs ys h k (inl e) m = e
  same_heads x y xs ys h k (inr l) (inl e) = sym e
  same_heads x y xs ys h k (inr l) (inr m) = same x y (not_equal_both (R x y) (R y x) (o.antisymm x y) (h.0 y m) (k.0 x l))

  rises_same : (xs ys : List X) → Rises R o xs → Rises R o ys → ((x : X) → sum_by (is_x x) xs ≡ sum_by (is_x x) ys) → xs ≡ ys
  unfolding Rises
  rises_same [] [] h k e = refl
  rises_same [] (y ∷ ys) h k e = absurd (omega (arith, e y, count_of_head y ys))
  rises_same (x ∷ xs) [] h k e = absurd (omega (arith, e x, count_of_head x xs))
  rises_same (x ∷ xs) (y ∷ ys) h k e =
      let there = member_from_count x (y ∷ ys) (omega (arith, e x, count_of_head x xs)) in
      let here = member_from_count y (x ∷ xs) (omega (arith, e y, count_of_head y ys)) in
      let heads : x ≡ y = same_heads x y xs ys h k there here in
      ap (λ v. v ∷ xs) heads
      ∙ ap (λ l. y ∷ l)
      (rises_same xs ys h.1 k.1 (λ z.
      omega (arith, e z, sum_by-cons (is_x z) x xs, sum_by-cons (is_x z) y ys, ap (is_x z) heads)))

  pub sorted_same : (xs ys : List X) → ((f : X → ℕ) → sum_by f xs ≡ sum_by f ys) → sorted R xs ≡ sorted R ys
  sorted_same xs ys e =
      rises_same (sorted R xs) (sorted R ys) (sorted_rises R o xs) (sorted_rises R o ys)
      (λ x. sum-sorted (is_x x) R xs ∙ e (is_x x) ∙ sym (sum-sorted (is_x x) R ys))

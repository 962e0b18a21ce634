-- A sort of std gives the definition's sorted list.
use Rattle.std.proofs.Common.{◌≡◌, ℕ, suc, ◌+◌, ◌<◌, ◌≤◌, refl, sym, ap, subst, ◌∙◌, inl, inr, arith}
use Rattle.std.proofs.lemmas.Bool.{cond_both, false≢true}
use Rattle.std.proofs.lemmas.Cmp.{upto, tied_itself}
use Rattle.std.proofs.lemmas.List.Sums.{sum_by-cons}
use Rattle.std.proofs.lemmas.List.Sorted.{sum_by-IsPermutation, sorted_far, ranks_by}
use Rattle.std.specs.Prelude.{Bool, true, false, cond, List, [], ◌∷◌, sum_by, length, IsPermutation, IsSorted}
use Rattle.std.specs.List.{slice_index_or}
use Rattle.std.specs.Ordering.{is_le, is_gt, is_lt, is_eq, ordering_reverse}
use Rattle.std.specs.Cmp.{IsTotalOrder}
use Rattle.std.specs.declared.cmp.Ordering.{Ordering}
use Rattle.std.specs.declared.cmp.Ordering.TheVariants.{Less, Equal, Greater}
use Rattle.samr_box.specs.Lists.{Member}
use Rattle.samr_box.proofs.Members.{contains_from_member}
use Rattle.samr_load.specs.Pieces.{put_in, sorted}
use Rattle.samr_load.proofs.Totals.{Each, each_none, each_cons, each_put_in}

not_greater : (t : Ordering) → is_le t ≡ true → is_gt t ≡ false
not_greater Less e = refl
not_greater Equal e = refl
not_greater Greater e = absurd (false≢true e)

reversed_greater : (t q : Ordering) → t ≡ ordering_reverse q → is_le q ≡ false → is_gt t ≡ false
reversed_greater t Less e h = absurd (false≢true (sym h))
reversed_greater t Equal e h = absurd (false≢true (sym h))
reversed_greater t Greater e h = ap is_gt e

not_less_greater : (t q : Ordering) → t ≡ ordering_reverse q → is_lt q ≡ false → is_gt t ≡ false
not_less_greater t Less e h = absurd (false≢true (sym h))
not_less_greater t Equal e h = ap is_gt e
not_less_greater t Greater e h = ap is_gt e

equal_both : (t q : Ordering) → t ≡ ordering_reverse q → is_gt t ≡ false → is_gt q ≡ false → t ≡ Equal
equal_both t Less e f g = absurd (false≢true (sym f ∙ ap is_gt e))
equal_both t Equal e f g = e
equal_both t Greater e f g = absurd (false≢true (sym g))

is_equal : (t : Ordering) → is_eq t ≡ true → t ≡ Equal
is_equal Less e = absurd (false≢true e)
is_equal Equal e = refl
is_equal Greater e = absurd (false≢true e)

module _ {X : Type 0} (f : X → ℕ) (cmp : X → X → Ordering) where
  sum-put_in : (x : X) (ys : List X) → sum_by f (put_in cmp x ys) ≡ f x + sum_by f ys
  sum-put_in x [] = sum_by-cons f x []
  sum-put_in x (y ∷ ys) =
      cond_both (is_le (cmp x y)) (x ∷ y ∷ ys) (y ∷ put_in cmp x ys) (λ l. sum_by f l ≡ f x + sum_by f (y ∷ ys))
      (λ _. sum_by-cons f x (y ∷ ys))
      (λ _. omega (arith, sum_by-cons f y (put_in cmp x ys), sum-put_in x ys, sum_by-cons f y ys))

  sum-sorted : (xs : List X) → sum_by f (sorted cmp xs) ≡ sum_by f xs
  unfolding sorted
  sum-sorted [] = refl
  sum-sorted (x ∷ xs) = omega (arith, sum-put_in x (sorted cmp xs), sum-sorted xs, sum_by-cons f x xs)

module _ {X : Type 0} (R : X → X → Ordering) (o : IsTotalOrder R) where
  -- no member comes after a later one
  unfoldable pub Rises : List X → Type 0
  Rises [] = Unit {0}
  Rises (x ∷ xs) = Each (λ y. is_gt (R x y) ≡ false) xs × Rises xs

  put_in_rises : (x : X) (ys : List X) → Rises ys → Rises (put_in R x ys)
  unfolding Rises
  put_in_rises x [] h = (each_none (λ y. is_gt (R x y) ≡ false), tt)
  put_in_rises x (y ∷ ys) h =
      cond_both (is_le (R x y)) (x ∷ y ∷ ys) (y ∷ put_in R x ys) (λ l. Rises l)
      (λ yes.
      let first = not_greater (R x y) yes in
      (each_cons (λ z. is_gt (R x z) ≡ false) y ys first (λ z m. upto o x y z first (h.0 z m)), h))
      (λ no. (
        each_put_in (λ z. is_gt (R y z) ≡ false) R x ys (reversed_greater (R y x) (R x y) (o.antisymm y x) no) h.0,
        put_in_rises x ys h.1,
      ))

  pub sorted_rises : (xs : List X) → Rises (sorted R xs)
  unfolding sorted Rises
  sorted_rises [] = tt
  sorted_rises (x ∷ xs) = put_in_rises x (sorted R xs) (sorted_rises xs)

  Far : List X → Type 0
  Far xs = (i j : ℕ) (d : X) → i ≤ j → j < length xs → is_gt (R (slice_index_or xs i d) (slice_index_or xs j d)) ≡ false

  far_rises : (xs : List X) → Far xs → Rises xs
  unfolding Rises Far
  far_rises [] far = tt
  far_rises (x ∷ xs) far = (
    λ y m.
        let place = contains_from_member y xs m in
        subst (λ z. is_gt (R x z) ≡ false) place.2 (far 0 (suc place.0) y (omega arith) (omega (arith, place.1))),
    far_rises xs (λ i j d low high. far (suc i) (suc j) d (omega arith) (omega arith)),
  )

  far_from_sorted : (xs : List X) → IsSorted R xs → Far xs
  unfolding Far
  far_from_sorted xs s i j d low high =
      let later = sorted_far (λ x y. is_lt (R x y)) (ranks_by o (λ x. x)) xs s i j d low high in
      let a = slice_index_or xs i d in
      let b = slice_index_or xs j d in
      not_less_greater (R a b) (R b a) (o.antisymm a b) later

  -- how often x is in a list
  is_x : X → X → ℕ
  is_x x y = cond (is_eq (R x y)) 1 0

  module _ (same : (a b : X) → R a b ≡ Equal → a ≡ b) where
    member_from_count : (x : X) (xs : List X) → 0 < sum_by (is_x x) xs → Member x xs
    unfolding is_x
    member_from_count x [] h = absurd (omega (arith, h))
    member_from_count x (y ∷ ys) h = by_test (is_eq (R x y)) refl (sum_by-cons (is_x x) y ys) (λ p. member_from_count x ys p)
      where
        by_test : (t : Bool) → is_eq (R x y) ≡ t → sum_by (is_x x) (y ∷ ys) ≡ cond (is_eq (R x y)) 1 0 + sum_by (is_x x) ys
            → (0 < sum_by (is_x x) ys → Member x ys) → Member x (y ∷ ys)
        by_test true e c later = inl (same x y (is_equal (R x y) e))
        by_test false e c later =
            let none : cond {A = ℕ} (is_eq (R x y)) 1 0 ≡ 0 = ap (λ t. cond {A = ℕ} t 1 0) e in
            inr (later (omega (arith, h, c, none)))

    count_of_head : (x : X) (xs : List X) → 0 < sum_by (is_x x) (x ∷ xs)
    unfolding is_x
    count_of_head x xs =
        let here : cond {A = ℕ} (is_eq (R x x)) 1 0 ≡ 1 = ap (λ t. cond {A = ℕ} (is_eq t) 1 0) (tied_itself o x) in
        omega (arith, sum_by-cons (is_x x) x xs, here)

    same_heads : (x y : X) (xs ys : List X) → Rises (x ∷ xs) → Rises (y ∷ ys) → Member x (y ∷ ys) → Member y (x ∷ xs) → x ≡ y
    unfolding Rises
    same_heads x y xs ys h k (inl e) m = e
    same_heads x y xs ys h k (inr l) (inl e) = sym e
    same_heads x y xs ys h k (inr l) (inr m) = same x y (equal_both (R x y) (R y x) (o.antisymm x y) (h.0 y m) (k.0 x l))

    rises_same : (xs ys : List X) → Rises xs → Rises ys → ((x : X) → sum_by (is_x x) xs ≡ sum_by (is_x x) ys) → xs ≡ ys
    unfolding Rises
    rises_same [] [] h k e = refl
    rises_same [] (y ∷ ys) h k e = absurd (omega (arith, e y, count_of_head y ys))
    rises_same (x ∷ xs) [] h k e = absurd (omega (arith, e x, count_of_head x xs))
    rises_same (x ∷ xs) (y ∷ ys) h k e =
        let there = member_from_count x (y ∷ ys) (omega (arith, e x, count_of_head x xs)) in
        let here = member_from_count y (x ∷ xs) (omega (arith, e y, count_of_head y ys)) in
        let heads : x ≡ y = same_heads x y xs ys h k there here in
        ap (λ v. v ∷ xs) heads
        ∙ ap (λ l. y ∷ l)
        (rises_same xs ys h.1 k.1 (λ z.
        omega (arith, e z, sum_by-cons (is_x z) x xs, sum_by-cons (is_x z) y ys, ap (is_x z) heads)))

    pub sort_is : (xs ys : List X) → IsPermutation xs ys → IsSorted R ys → ys ≡ sorted R xs
    sort_is xs ys p s =
        rises_same ys (sorted R xs) (far_rises ys (far_from_sorted ys s)) (sorted_rises xs)
        (λ x. sum_by-IsPermutation (is_x x) xs ys p ∙ sym (sum-sorted (is_x x) R xs))

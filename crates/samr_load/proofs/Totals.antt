-- Sums over lists of pieces, and what holds of all members, of joined and of sorted lists.
use Rattle.std.proofs.Common.{◌≡◌, ℕ, ◌+◌, ◌≤◌, refl, sym, ap, subst, inl, inr, arith}
use Rattle.std.proofs.lemmas.Bool.{cond_both}
use Rattle.std.proofs.lemmas.List.Sums.{sum_by-cons}
use Rattle.std.specs.Prelude.{Bool, true, false, cond, List, [], ◌∷◌, ◌++◌, filter, sum_by}
use Rattle.std.specs.Ordering.{is_le}
use Rattle.std.specs.declared.cmp.Ordering.{Ordering}
use Rattle.samr_box.specs.Lists.{Member}
use Rattle.samr_box.proofs.Members.{Member-from_append}
use Rattle.samr_load.specs.Pieces.{Placed, total, put_in, sorted}

-- what holds of each member
abbrev pub Each : {X : Type 0} → (X → Type 0) → List X → Type 0
Each {X} P xs = (x : X) → Member x xs → P x

module _ {X : Type 0} (P : X → Type 0) where
  pub each_none : Each P []
  each_none x m = absurd m

  pub each_cons : (y : X) (ys : List X) → P y → Each P ys → Each P (y ∷ ys)
  each_cons y ys here later x (inl e) = subst P (sym e) here
  each_cons y ys here later x (inr m) = later x m

  pub each_head : (y : X) (ys : List X) → Each P (y ∷ ys) → P y
  each_head y ys each = each y (inl refl)

  pub each_tail : (y : X) (ys : List X) → Each P (y ∷ ys) → Each P ys
  each_tail y ys each x m = each x (inr m)

  pub each_append : (xs ys : List X) → Each P xs → Each P ys → Each P (xs ++ ys)
  each_append xs ys left right x m = elim (Member-from_append x xs ys m) [ inl p ↦ left x p | inr q ↦ right x q ]

  pub each_put_in : (cmp : X → X → Ordering) (y : X) (ys : List X) → P y → Each P ys → Each P (put_in cmp y ys)
  each_put_in cmp y [] here later = each_cons y [] here later
  each_put_in cmp y (z ∷ ys) here later =
      cond_both (is_le (cmp y z)) (y ∷ z ∷ ys) (z ∷ put_in cmp y ys) (λ l. Each P l)
      (λ _. each_cons y (z ∷ ys) here later)
      (λ _. each_cons z (put_in cmp y ys) (each_head z ys later) (each_put_in cmp y ys here (each_tail z ys later)))

  pub each_sorted : (cmp : X → X → Ordering) (xs : List X) → Each P xs → Each P (sorted cmp xs)
  unfolding sorted
  each_sorted cmp [] each = each
  each_sorted cmp (x ∷ xs) each =
      each_put_in cmp x (sorted cmp xs) (each_head x xs each) (each_sorted cmp xs (each_tail x xs each))

module _ (m : Placed → ℕ) where
  pub total-is_sum : (qs : List Placed) → total m qs ≡ sum_by m qs
  total-is_sum [] = refl
  total-is_sum (q ∷ qs) = omega (arith, total-is_sum qs, sum_by-cons m q qs)

  pub total-append : (ps qs : List Placed) → total m (ps ++ qs) ≡ total m ps + total m qs
  total-append [] qs = omega arith
  total-append (p ∷ ps) qs = omega (arith, total-append ps qs)

  pub total-put_in : (cmp : Placed → Placed → Ordering) (p : Placed) (qs : List Placed) → total m (put_in cmp p qs) ≡ m p + total m qs
  total-put_in cmp p [] = refl
  total-put_in cmp p (q ∷ qs) =
      cond_both (is_le (cmp p q)) (p ∷ q ∷ qs) (q ∷ put_in cmp p qs) (λ l. total m l ≡ m p + (m q + total m qs))
      (λ _. refl)
      (λ _. omega (arith, total-put_in cmp p qs))

  pub total-sorted : (cmp : Placed → Placed → Ordering) (qs : List Placed) → total m (sorted cmp qs) ≡ total m qs
  unfolding sorted
  total-sorted cmp [] = refl
  total-sorted cmp (q ∷ qs) = omega (arith, total-put_in cmp q (sorted cmp qs), total-sorted cmp qs)

  pub total-member : (qs : List Placed) → Each (λ q. m q ≤ total m qs) qs
  total-member [] q h = absurd h
  total-member (p ∷ qs) q (inl e) = let same = ap m e in omega (arith, same)
  total-member (p ∷ qs) q (inr h) = omega (arith, total-member qs q h)

  -- the members that pass a test
  pub total-filter : (test : Placed → Bool) (qs : List Placed) → total m (filter test qs) ≡ total (λ q. cond (test q) (m q) 0) qs
  total-filter test [] = refl
  total-filter test (q ∷ qs) = by_test (test q) (total-filter test qs)
    where
      by_test : (t : Bool) → total m (filter test qs) ≡ total (λ p. cond (test p) (m p) 0) qs
          → total m (cond t (q ∷ filter test qs) (filter test qs)) ≡ cond t (m q) 0 + total (λ p. cond (test p) (m p) 0) qs
      by_test true rest = omega (arith, rest)
      by_test false rest = omega (arith, rest)

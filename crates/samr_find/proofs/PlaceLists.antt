-- The places of boxes that pass a test: what is among them, in which order, and those of one box more.
use Rattle.std.proofs.Common.{◌≡◌, ℕ, zero, suc, ◌+◌, ◌<◌, ◌≤◌, Bool, true, false, List, [], ◌∷◌, ◌++◌, length, refl, sym, ap, ◌∙◌, subst, inl, inr, arith, append-nil, append_assoc, ◌-◌}
use Rattle.std.specs.List.Sorted.{IsStrictlySortedBy}
use Rattle.std.specs.Ordering.{nat_cmp}
use Rattle.samr_box.specs.Corners.{Corners}
use Rattle.samr_box.specs.Lists.{Member}
use Rattle.samr_box.proofs.Members.{Member-append_right}
use Rattle.samr_find.proofs.CellLists.{nat_less}
use Rattle.samr_box.proofs.Ascending.{sorted-nil, sorted-cons}
use Rattle.samr_find.specs.Places.{places_from, places_of, passes_at}
use Rattle.samr_find.specs.Buckets.{where_true}

module _ (test : Corners → Bool) where
  -- the first box counted or not
  from-cons : (n : ℕ) (a : Corners) (rest : List Corners) (t : Bool) → test a ≡ t → places_from n test (a ∷ rest) ≡ where_true t n ++ places_from (n + 1) test rest
  from-cons n a rest true e = rw e refl
  from-cons n a rest false e = rw e refl

  from-push : (n : ℕ) (boxes : List Corners) (b : Corners) → places_from n test (boxes ++ b ∷ []) ≡ places_from n test boxes ++ where_true (test b) (n + length boxes)
  from-push n [] b = from-cons n b [] (test b) refl ∙ append-nil (where_true (test b) n) ∙ ap (λ m. where_true (test b) m) (omega arith)
  from-push n (a ∷ rest) b =
      from-cons n a (rest ++ b ∷ []) (test a) refl
      ∙ ap (λ xs. where_true (test a) n ++ xs) (from-push (n + 1) rest b)
      ∙ sym (append_assoc (where_true (test a) n) (places_from (n + 1) test rest) (where_true (test b) (n + 1 + length rest)))
      ∙ ap (λ xs. xs ++ where_true (test b) (n + 1 + length rest)) (sym (from-cons n a rest (test a) refl))
      ∙ ap (λ m. places_from n test (a ∷ rest) ++ where_true (test b) m) (omega arith)

  pub places-push : (boxes : List Corners) (b : Corners) → places_of test (boxes ++ b ∷ []) ≡ places_of test boxes ++ where_true (test b) (length boxes)
  places-push boxes b = from-push 0 boxes b ∙ ap (λ m. places_of test boxes ++ where_true (test b) m) (omega arith)

  -- a place is among them exactly where its box passes
  in-from : (n : ℕ) (boxes : List Corners) (p : ℕ) → Member p (places_from n test boxes) → (n ≤ p) × (passes_at test boxes (p - n) ≡ true)
  in-from n [] p m = absurd m
  in-from n (a ∷ rest) p m = by (test a) refl (in-from (n + 1) rest p)
    where
      later : ((n + 1 ≤ p) × (passes_at test rest (p - (n + 1)) ≡ true)) → (n ≤ p) × (passes_at test (a ∷ rest) (p - n) ≡ true)
      later (low, passes) =
          let is : p - n ≡ suc (p - (n + 1)) = omega arith in
          (omega arith, rw is passes)

      by : (t : Bool) → test a ≡ t → (Member p (places_from (n + 1) test rest) → (n + 1 ≤ p) × (passes_at test rest (p - (n + 1)) ≡ true))
          → (n ≤ p) × (passes_at test (a ∷ rest) (p - n) ≡ true)
      by true e others = elim (subst (λ xs. Member p xs) (from-cons n a rest true e) m) [
        | inl here ↦
            let is : p - n ≡ 0 = omega (arith, here) in
            (omega (arith, here), rw is e)
        | inr there ↦ later (others there)
      ]
      by false e others = later (others (subst (λ xs. Member p xs) (from-cons n a rest false e) m))

  from-in : (n : ℕ) (boxes : List Corners) (k : ℕ) → passes_at test boxes k ≡ true → Member (n + k) (places_from n test boxes)
  from-in n [] k passes = absurd cc
  from-in n (a ∷ rest) zero passes =
      let here : Member n (places_from n test (a ∷ rest)) = subst (λ xs. Member n xs) (sym (from-cons n a rest true passes)) (inl refl) in
      subst (λ m. Member m (places_from n test (a ∷ rest))) (omega arith) here
  from-in n (a ∷ rest) (suc k) passes =
      let there = from-in (n + 1) rest k passes in
      let is : n + 1 + k ≡ n + suc k = omega arith in
      subst (λ m. Member m (places_from n test (a ∷ rest))) is
      (subst (λ xs. Member (n + 1 + k) xs) (sym (from-cons n a rest (test a) refl)) (Member-append_right (n + 1 + k) (where_true (test a) n) (places_from (n + 1) test rest) there))

  pub passes-from_place : (boxes : List Corners) (p : ℕ) → Member p (places_of test boxes) → passes_at test boxes p ≡ true
  passes-from_place boxes p m = let is : p - 0 ≡ p = omega arith in subst (λ k. passes_at test boxes k ≡ true) is (in-from 0 boxes p m).1

  pub place-from_passes : (boxes : List Corners) (p : ℕ) → passes_at test boxes p ≡ true → Member p (places_of test boxes)
  place-from_passes boxes p passes = let is : 0 + p ≡ p = omega arith in subst (λ k. Member k (places_of test boxes)) is (from-in 0 boxes p passes)

  -- they ascend
  from-sorted : (n : ℕ) (boxes : List Corners) → IsStrictlySortedBy nat_cmp (places_from n test boxes)
  from-sorted n [] = sorted-nil nat_cmp
  from-sorted n (a ∷ rest) = by (test a) refl (from-sorted (n + 1) rest) (λ p m. let low = (in-from (n + 1) rest p m).0 in omega arith)
    where
      by : (t : Bool) → test a ≡ t → IsStrictlySortedBy nat_cmp (places_from (n + 1) test rest) → ((p : ℕ) → Member p (places_from (n + 1) test rest) → n < p)
          → IsStrictlySortedBy nat_cmp (places_from n test (a ∷ rest))
      by true e sorted above = subst (λ xs. IsStrictlySortedBy nat_cmp xs) (sym (from-cons n a rest true e)) (sorted-cons nat_cmp n (places_from (n + 1) test rest) (λ p m. nat_less n p (above p m)) sorted)
      by false e sorted above = subst (λ xs. IsStrictlySortedBy nat_cmp xs) (sym (from-cons n a rest false e)) sorted

  pub places-sorted : (boxes : List Corners) → IsStrictlySortedBy nat_cmp (places_of test boxes)
  places-sorted boxes = from-sorted 0 boxes

-- Lists in order, each member once: they ascend, and have the members that they were made from.
use Rattle.std.proofs.Common.{◌≡◌, refl, sym, ap, subst, ◌∙◌, inl, inr}
use Rattle.std.proofs.lemmas.List.Kept.{IsStrictlySortedBy-dedup, Contains-dedup, Contains-from_dedup}
use Rattle.std.proofs.lemmas.List.Sorted.{Contains-permutation, IsPermutation-sym}
use Rattle.std.proofs.lemmas.Cmp.{eq_by_cmp_equiv}
use Rattle.std.specs.Prelude.{Bool, true, List, [], ◌∷◌, IsPermutation, IsSorted, ◌⊎◌}
use Rattle.std.specs.List.{dedup}
use Rattle.std.specs.List.Sorted.{IsStrictlySortedBy}
use Rattle.std.specs.Cmp.{IsTotalOrder, IsEquivalence, Equal-is}
use Rattle.std.specs.Ordering.{ordering_reverse, eq_by_cmp}
use Rattle.std.specs.declared.cmp.Ordering.{Ordering}
use Rattle.std.specs.declared.cmp.Ordering.TheVariants.{Less, Equal, Greater}
use Rattle.samr_box.specs.Lists.{Member}
use Rattle.samr_box.proofs.Members.{member_from_contains, contains_from_member}
use Rattle.samr_box.proofs.Ascending.{sorted-nil, sorted-cons, sorted-tail, sorted-head, same_from_members}
use Rattle.samr_level.specs.RefOrders.{placed, inserted, in_order}

reversed : (o q : Ordering) → o ≡ ordering_reverse q → q ≡ Greater → o ≡ Less
reversed o q e p = e ∙ ap ordering_reverse p

module _ {X : Type 0} {R : X → X → Ordering} (o : IsTotalOrder R) where
  from_placed : (t : Ordering) (x y z : X) (ys more : List X) → (Member z more → (z ≡ x) ⊎ Member z ys)
      → Member z (placed t x y ys more) → (z ≡ x) ⊎ Member z (y ∷ ys)
  from_placed Less x y z ys more f (inl e) = inl e
  from_placed Less x y z ys more f (inr m) = inr m
  from_placed Equal x y z ys more f m = inr m
  from_placed Greater x y z ys more f (inl e) = inr (inl e)
  from_placed Greater x y z ys more f (inr m) = elim (f m) [ inl e ↦ inl e | inr later ↦ inr (inr later) ]

  from_inserted : (x z : X) (ys : List X) → Member z (inserted R x ys) → (z ≡ x) ⊎ Member z ys
  unfolding inserted
  from_inserted x z [] m = m
  from_inserted x z (y ∷ ys) m = from_placed (R x y) x y z ys (inserted R x ys) (λ q. from_inserted x z ys q) m

  pub Member-from_in_order : (z : X) (xs : List X) → Member z (in_order R xs) → Member z xs
  unfolding in_order
  Member-from_in_order z [] m = m
  Member-from_in_order z (x ∷ xs) m =
      elim (from_inserted x z (in_order R xs) m) [ inl e ↦ inl e | inr later ↦ inr (Member-from_in_order z xs later) ]

  placed_sorted : (t : Ordering) (x y : X) (ys more : List X) → R x y ≡ t → IsStrictlySortedBy R (y ∷ ys) → IsStrictlySortedBy R more
      → ((z : X) → Member z more → (z ≡ x) ⊎ Member z ys) → IsStrictlySortedBy R (placed t x y ys more)
  placed_sorted Less x y ys more e s m f =
      sorted-cons R x (y ∷ ys)
      (λ z q. elim q [
        | inl here ↦ subst (λ v. R x v ≡ Less) (sym here) e
        | inr later ↦ o.trans x y z e (sorted-head R y ys s z later)
      ])
      s
  placed_sorted Equal x y ys more e s m f = s
  placed_sorted Greater x y ys more e s m f =
      sorted-cons R y more
      (λ z q. elim (f z q) [
        | inl here ↦ subst (λ v. R y v ≡ Less) (sym here) (reversed (R y x) (R x y) (o.antisymm y x) e)
        | inr later ↦ sorted-head R y ys s z later
      ])
      m

  inserted_sorted : (x : X) (ys : List X) → IsStrictlySortedBy R ys → IsStrictlySortedBy R (inserted R x ys)
  unfolding inserted
  inserted_sorted x [] s = sorted-cons R x [] (λ z m. absurd m) (sorted-nil R)
  inserted_sorted x (y ∷ ys) s =
      placed_sorted (R x y) x y ys (inserted R x ys) refl s (inserted_sorted x ys (sorted-tail R y ys s)) (λ z m. from_inserted x z ys m)

  pub sorted-in_order : (xs : List X) → IsStrictlySortedBy R (in_order R xs)
  unfolding in_order
  sorted-in_order [] = sorted-nil R
  sorted-in_order (x ∷ xs) = inserted_sorted x (in_order R xs) (sorted-in_order xs)

module _ {X : Type 0} {R : X → X → Ordering} (o : IsTotalOrder R) (same : (a b : X) → R a b ≡ Equal → a ≡ b) where
  to_placed : (t : Ordering) (x y z : X) (ys more : List X) → R x y ≡ t → ((z ≡ x) ⊎ Member z ys → Member z more)
      → (z ≡ x) ⊎ Member z (y ∷ ys) → Member z (placed t x y ys more)
  to_placed Less x y z ys more e f m = m
  to_placed Equal x y z ys more e f (inl here) = inl (here ∙ same x y e)
  to_placed Equal x y z ys more e f (inr later) = later
  to_placed Greater x y z ys more e f (inl here) = inr (f (inl here))
  to_placed Greater x y z ys more e f (inr (inl here)) = inl here
  to_placed Greater x y z ys more e f (inr (inr later)) = inr (f (inr later))

  to_inserted : (x z : X) (ys : List X) → (z ≡ x) ⊎ Member z ys → Member z (inserted R x ys)
  unfolding inserted
  to_inserted x z [] m = m
  to_inserted x z (y ∷ ys) m = to_placed (R x y) x y z ys (inserted R x ys) refl (λ q. to_inserted x z ys q) m

  pub Member-in_order : (z : X) (xs : List X) → Member z xs → Member z (in_order R xs)
  unfolding in_order
  Member-in_order z [] m = m
  Member-in_order z (x ∷ xs) (inl e) = to_inserted x z (in_order R xs) (inl e)
  Member-in_order z (x ∷ xs) (inr m) = to_inserted x z (in_order R xs) (inr (Member-in_order z xs m))

  -- a strictly ascending list with these members is this list
  pub in_order_is : (xs ys : List X) → IsStrictlySortedBy R ys
      → ((z : X) → Member z ys → Member z xs) → ((z : X) → Member z xs → Member z ys) → ys ≡ in_order R xs
  in_order_is xs ys s f g =
      same_from_members o ys (in_order R xs) s (sorted-in_order o xs)
      (λ z m. Member-in_order z xs (f z m))
      (λ z m. g z (Member-from_in_order o z xs m))

  -- a test for equality that the order agrees with
  module _ (E : X → X → Bool) (ties : (x y : X) → E x y ≡ eq_by_cmp R x y) where
    equivalence : IsEquivalence E
    equivalence =
        let e = eq_by_cmp_equiv o in
        record {
          refl = λ x. ties x x ∙ e.refl x;
          symm = λ x y. ties x y ∙ e.symm x y ∙ sym (ties y x);
          congr = λ x y z h. ties x z ∙ e.congr x y z (sym (ties x y) ∙ h) ∙ sym (ties y z);
        }

    equal_is : (x y : X) → E x y ≡ true → x ≡ y
    equal_is x y h = same x y ((Equal-is (R x y)).0 (sym (ties x y) ∙ h))

    -- sorted, and then without doubles
    pub settled_is : (xs sorted : List X) → IsPermutation xs sorted → IsSorted R sorted → dedup E sorted ≡ in_order R xs
    settled_is xs sorted p s =
        in_order_is xs (dedup E sorted) (IsStrictlySortedBy-dedup o ties sorted s)
        (λ z m. member_from_contains z xs
        (Contains-permutation sorted xs z (IsPermutation-sym xs sorted p) (Contains-from_dedup E sorted z (contains_from_member z (dedup E sorted) m))))
        (λ z m. member_from_contains z (dedup E sorted)
        (Contains-dedup equivalence equal_is sorted z (Contains-permutation xs sorted z p (contains_from_member z xs m))))

-- A strictly ascending list is determined by its members; and which lists ascend.
use Rattle.std.proofs.Common.{◌≡◌, refl, sym, ap, subst, ◌∙◌, inl, inr}
use Rattle.std.proofs.lemmas.Cmp.{tied_itself}
use Rattle.std.specs.Prelude.{List, [], ◌∷◌, ◌++◌, map}
use Rattle.std.specs.List.{flat_map}
use Rattle.std.specs.List.Sorted.{IsStrictlySortedBy}
use Rattle.std.specs.Cmp.{IsTotalOrder}
use Rattle.std.specs.Ordering.{ordering_reverse}
use Rattle.std.specs.declared.cmp.Ordering.{Ordering}
use Rattle.std.specs.declared.cmp.Ordering.TheVariants.{Less, Equal}
use Rattle.samr_box.specs.Lists.{Member}
use Rattle.samr_box.proofs.Members.{by_recursion_from_members, member_of_recursion, Member-from_append, Member-from_map, Member-from_flat_map}

module _ {X : Type 0} (R : X → X → Ordering) where
  pub sorted-tail : (x : X) (xs : List X) → IsStrictlySortedBy R (x ∷ xs) → IsStrictlySortedBy R xs
  unfolding IsStrictlySortedBy
  sorted-tail x xs s = s.1

  pub sorted-head : (x : X) (xs : List X) → IsStrictlySortedBy R (x ∷ xs) → (y : X) → Member y xs → R x y ≡ Less
  unfolding IsStrictlySortedBy
  sorted-head x xs s y m = member_of_recursion (λ y. R x y ≡ Less) y xs s.0 m

  pub sorted-nil : IsStrictlySortedBy R []
  unfolding IsStrictlySortedBy
  sorted-nil = tt

  pub sorted-cons : (x : X) (xs : List X) → ((y : X) → Member y xs → R x y ≡ Less) → IsStrictlySortedBy R xs → IsStrictlySortedBy R (x ∷ xs)
  unfolding IsStrictlySortedBy
  sorted-cons x xs f s = (by_recursion_from_members (λ y. R x y ≡ Less) xs f, s)

  pub sorted-append : (xs ys : List X) → IsStrictlySortedBy R xs → IsStrictlySortedBy R ys
      → ((x y : X) → Member x xs → Member y ys → R x y ≡ Less) → IsStrictlySortedBy R (xs ++ ys)
  sorted-append [] ys s t f = t
  sorted-append (x ∷ xs) ys s t f =
      sorted-cons x (xs ++ ys)
      (λ y m. elim (Member-from_append y xs ys m) [ inl p ↦ sorted-head x xs s y p | inr q ↦ f x y (inl refl) q ])
      (sorted-append xs ys (sorted-tail x xs s) t (λ z y p q. f z y (inr p) q))

less-equal : (o : Ordering) → o ≡ Less → o ≡ Equal → ⊥
less-equal o p q = cc

less-both : (o q : Ordering) → o ≡ ordering_reverse q → o ≡ Less → q ≡ Less → ⊥
less-both o q e p r = cc

module _ {X : Type 0} {R : X → X → Ordering} (o : IsTotalOrder R) where
  not_less_itself : (x : X) → R x x ≡ Less → ⊥
  not_less_itself x e = less-equal (R x x) e (tied_itself o x)

  -- a member of the tail is not the head
  not_head : (x z : X) (xs : List X) → IsStrictlySortedBy R (x ∷ xs) → Member z xs → z ≡ x → ⊥
  not_head x z xs s m e = not_less_itself x (subst (λ v. R x v ≡ Less) e (sorted-head R x xs s z m))

  pub same_from_members : (xs ys : List X) → IsStrictlySortedBy R xs → IsStrictlySortedBy R ys
      → ((x : X) → Member x xs → Member x ys) → ((x : X) → Member x ys → Member x xs) → xs ≡ ys
  same_from_members [] [] s t f g = refl
  same_from_members [] (y ∷ ys) s t f g = absurd (g y (inl refl))
  same_from_members (x ∷ xs) [] s t f g = absurd (f x (inl refl))
  same_from_members (x ∷ xs) (y ∷ ys) s t f g =
      let heads = same_heads (f x (inl refl)) (g y (inl refl)) in
      let tails = same_from_members xs ys (sorted-tail R x xs s) (sorted-tail R y ys t)
      (λ z m. in_tail z (not_head x z xs s m) heads (f z (inr m)))
      (λ z m. out_tail z (not_head y z ys t m) heads (g z (inr m))) in
      ap (λ v. v ∷ xs) heads ∙ ap (λ l. y ∷ l) tails
    where
      same_heads : Member x (y ∷ ys) → Member y (x ∷ xs) → x ≡ y
      same_heads (inl e) q = e
      same_heads (inr p) (inl e) = sym e
      same_heads (inr p) (inr q) =
          absurd (less-both (R x y) (R y x) (o.antisymm x y) (sorted-head R x xs s y q) (sorted-head R y ys t x p))

      in_tail : (z : X) → (z ≡ x → ⊥) → x ≡ y → Member z (y ∷ ys) → Member z ys
      in_tail z differs e (inl here) = absurd (differs (here ∙ sym e))
      in_tail z differs e (inr later) = later

      out_tail : (z : X) → (z ≡ y → ⊥) → x ≡ y → Member z (x ∷ xs) → Member z xs
      out_tail z differs e (inl here) = absurd (differs (here ∙ e))
      out_tail z differs e (inr later) = later

module _ {X Y : Type 0} (Q : X → X → Ordering) (R : Y → Y → Ordering) where
  pub sorted-map : (f : X → Y) (xs : List X) → ((x x' : X) → Q x x' ≡ Less → R (f x) (f x') ≡ Less)
      → IsStrictlySortedBy Q xs → IsStrictlySortedBy R (map f xs)
  sorted-map f [] up s = sorted-nil R
  sorted-map f (x ∷ xs) up s =
      sorted-cons R (f x) (map f xs)
      (λ y m. let r = Member-from_map f y xs m in
      subst (λ v. R (f x) v ≡ Less) (sym r.2) (up x r.0 (sorted-head Q x xs s r.0 r.1)))
      (sorted-map f xs up (sorted-tail Q x xs s))

  -- a product list in nested order is in lexicographic order
  pub sorted-flat_map : (f : X → List Y) (xs : List X) → ((x : X) → IsStrictlySortedBy R (f x))
      → ((x x' : X) (y y' : Y) → Q x x' ≡ Less → Member y (f x) → Member y' (f x') → R y y' ≡ Less)
      → IsStrictlySortedBy Q xs → IsStrictlySortedBy R (flat_map f xs)
  sorted-flat_map f [] each up s = sorted-nil R
  sorted-flat_map f (x ∷ xs) each up s =
      sorted-append R (f x) (flat_map f xs) (each x) (sorted-flat_map f xs each up (sorted-tail Q x xs s))
      (λ y y' p q. let r = Member-from_flat_map f y' xs q in
      up x r.0 y y' (sorted-head Q x xs s r.0 r.1) p r.2)

-- Lists with the same members, and members that pass tests.
use Rattle.std.proofs.Common.{◌≡◌, ℕ, ◌≤◌, ap, subst, inl, inr, arith}
use Rattle.std.proofs.lemmas.Bool.Decides.{nat_tests}
use Rattle.std.specs.Prelude.{true, List, [], ◌∷◌, nat_eq, sum_by}
use Rattle.std.specs.List.{list_any}
use Rattle.std.specs.Cmp.{IsTotalOrder}
use Rattle.std.specs.declared.cmp.Ordering.{Ordering}
use Rattle.std.specs.declared.cmp.Ordering.TheVariants.{Equal}
use Rattle.std.proofs.lemmas.List.Sums.{sum_by-cons}
use Rattle.samr_box.specs.Lists.{Member}
use Rattle.samr_level.specs.RefOrders.{in_order}
use Rattle.samr_level.proofs.Sorting.{Member-in_order, Member-from_in_order, sorted-in_order, in_order_is}
use Rattle.samr_rounds.proofs.Lists.{any_member, member_any, nat_eq_self}

-- two lists with the same members are one list in order
pub same_in_order : {X : Type 0} {R : X → X → Ordering} → IsTotalOrder R → ((x y : X) → R x y ≡ Equal → x ≡ y) → (xs ys : List X)
    → ((z : X) → Member z xs → Member z ys) → ((z : X) → Member z ys → Member z xs) → in_order R xs ≡ in_order R ys
same_in_order {X} {R} o same xs ys f g =
    in_order_is o same ys (in_order R xs) (sorted-in_order o xs)
    (λ z m. f z (Member-from_in_order o z xs m))
    (λ z m. Member-in_order o same z xs (g z m))

-- a rank that is among some
pub among : (r : ℕ) (ranks : List ℕ) → Member r ranks → list_any (λ k. nat_eq k r) ranks ≡ true
among r ranks m = any_member (λ k. nat_eq k r) r ranks m (nat_eq_self r)

pub is_among : (r : ℕ) (ranks : List ℕ) → list_any (λ k. nat_eq k r) ranks ≡ true → Member r ranks
is_among r ranks t =
    let s = member_any (λ k. nat_eq k r) ranks t in
    let e = s.2 in
    let same : s.0 ≡ r = grind (arith, nat_tests, e) in
    subst (λ (k : ℕ). Member k ranks) same s.1

pub same_number : (a b : ℕ) → nat_eq a b ≡ true → a ≡ b
same_number a b t = grind (arith, nat_tests, t)

pub is_same_number : (a b : ℕ) → a ≡ b → nat_eq a b ≡ true
is_same_number a b e = grind (arith, nat_tests, e)

pub part_of_sum : {X : Type 0} (f : X → ℕ) (x : X) (xs : List X) → Member x xs → f x ≤ sum_by f xs
part_of_sum f x [] m = absurd m
part_of_sum f x (y ∷ xs) (inl e) = omega (arith, sum_by-cons f y xs, ap f e)
part_of_sum f x (y ∷ xs) (inr m) = omega (arith, sum_by-cons f y xs, part_of_sum f x xs m)

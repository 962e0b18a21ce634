-- A list that ascends owner by owner is the lists of its owners, one after another.
use Rattle.std.proofs.Common.{◌≡◌, ℕ, zero, suc, ◌+◌, ◌<◌, ◌≤◌, List, filter, nat_eq, refl, inl, inr, arith}
use Rattle.std.specs.List.{range_with_len, flat_map}
use Rattle.std.specs.List.Sorted.{IsStrictlySortedBy}
use Rattle.std.specs.Cmp.{IsTotalOrder}
use Rattle.std.specs.Ordering.{nat_cmp, MatchOrdering}
use Rattle.std.specs.declared.cmp.Ordering.{Ordering}
use Rattle.std.specs.declared.cmp.Ordering.TheVariants.{Less, Equal, Greater}
use Rattle.std.proofs.lemmas.Bool.{cases_eq, eqb-true, eq-eqb}
use Rattle.std.proofs.lemmas.Cmp.{ranked}
use Rattle.std.proofs.lemmas.List.Kept.{IsStrictlySortedBy-filter}
use Rattle.samr_box.specs.Lists.{Member}
use Rattle.samr_box.proofs.Members.{Member-filter, Member-from_filter, Member-flat_map, Member-from_flat_map}
use Rattle.samr_box.proofs.Ascending.{sorted-nil, sorted-cons, sorted-flat_map, same_from_members}

-- the numbers of a range
Member-range : (n a k : ℕ) → a ≤ k → k < a + n → Member k (range_with_len a n)
Member-range zero a k low high = absurd (omega arith)
Member-range (suc n) a k low high = elim (cases_eq k a) [
  | inl here ↦ inl here
  | inr later ↦ inr (Member-range n (a + 1) k (omega (arith, later)) (omega arith))
]

from_range : (n a k : ℕ) → Member k (range_with_len a n) → a ≤ k
from_range zero a k m = absurd m
from_range (suc n) a k (inl here) = omega arith
from_range (suc n) a k (inr later) = let low = from_range n (a + 1) k later in omega arith

pub nat_less : (x y : ℕ) → x < y → nat_cmp x y ≡ Less
nat_less x y below = by (nat_cmp x y) (ranked x y (nat_cmp x y) refl)
  where
    by : (o : Ordering) → MatchOrdering o (x < y) (x ≡ y) (y < x) → o ≡ Less
    by Less m = refl
    by Equal m = absurd (omega arith)
    by Greater m = absurd (omega arith)

less_of : (x y : ℕ) → nat_cmp x y ≡ Less → x < y
less_of x y is = by (nat_cmp x y) (ranked x y (nat_cmp x y) refl) is
  where
    by : (o : Ordering) → MatchOrdering o (x < y) (x ≡ y) (y < x) → o ≡ Less → x < y
    by Less m e = m
    by Equal m e = absurd cc
    by Greater m e = absurd cc

range_sorted : (n a : ℕ) → IsStrictlySortedBy nat_cmp (range_with_len a n)
range_sorted zero a = sorted-nil nat_cmp
range_sorted (suc n) a =
    sorted-cons nat_cmp a (range_with_len (a + 1) n) (λ k m. let low = from_range n (a + 1) k m in nat_less a k (omega arith)) (range_sorted n (a + 1))

module _ {X : Type 0} {R : X → X → Ordering} (o : IsTotalOrder R) (owner : X → ℕ) (first : (a b : X) → owner a < owner b → R a b ≡ Less) where
  abbrev of_owner : List X → ℕ → List X
  of_owner xs r = filter (λ x. nat_eq (owner x) r) xs

  owned : (xs : List X) (r : ℕ) (x : X) → Member x (of_owner xs r) → Member x xs × (owner x ≡ r)
  owned xs r x m = let p = Member-from_filter (λ x. nat_eq (owner x) r) x xs m in (p.0, eqb-true (owner x) r p.1)

  pub by_owner : (xs : List X) (n : ℕ) → IsStrictlySortedBy R xs → ((x : X) → Member x xs → owner x < n) → flat_map (of_owner xs) (range_with_len 0 n) ≡ xs
  by_owner xs n sorted below =
      same_from_members o (flat_map (of_owner xs) (range_with_len 0 n)) xs
      (sorted-flat_map nat_cmp R (of_owner xs) (range_with_len 0 n) (λ r. IsStrictlySortedBy-filter R (λ x. nat_eq (owner x) r) xs sorted)
      (λ r s x y less m w. let p = (owned xs r x m).1 in let q = (owned xs s y w).1 in let l = less_of r s less in first x y (omega (arith, p, q, l)))
      (range_sorted n 0))
      sorted
      (λ x m. let r = Member-from_flat_map (of_owner xs) x (range_with_len 0 n) m in (owned xs r.0 x r.2).0)
      (λ x m. Member-flat_map (of_owner xs) x (owner x) (range_with_len 0 n) (Member-range n 0 (owner x) (omega arith) (let b = below x m in omega arith))
      (Member-filter (λ y. nat_eq (owner y) (owner x)) x xs m (eq-eqb (owner x) (owner x) refl)))

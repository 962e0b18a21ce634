-- Lists: tests for one member, members made under a test, ranges, and the others among some ranks.
use Rattle.std.proofs.Common.{◌≡◌, ◌≢◌, ℕ, zero, suc, ◌+◌, ◌<◌, ◌≤◌, refl, sym, ap, subst, ◌∙◌, inl, inr, arith, length, sum_by, not}
use Rattle.std.proofs.lemmas.Bool.{or_cases, or_left, or_right, cases_eq, false≢true, cond-true}
use Rattle.std.proofs.lemmas.Bool.Decides.{nat_tests}
use Rattle.std.proofs.lemmas.Cmp.{nat_cmp_total, tied_itself}
use Rattle.std.proofs.lemmas.List.Kept.{IsStrictlySortedBy-filter}
use Rattle.std.proofs.lemmas.List.Sums.{sum_by-cons}
use Rattle.std.specs.Cmp.{Equal-is}
use Rattle.std.specs.Prelude.{Bool, true, false, cond, nat_eq, Some, None, List, [], ◌∷◌, map, filter}
use Rattle.std.specs.List.{range_with_len, filter_map, cons_option, list_any}
use Rattle.std.specs.List.Sorted.{IsStrictlySortedBy}
use Rattle.std.specs.Option.{option_map}
use Rattle.std.specs.Ordering.{nat_cmp, is_eq}
use Rattle.samr_box.specs.Lists.{Member}
use Rattle.samr_box.proofs.Members.{Member-filter, Member-from_filter}
use Rattle.samr_box.proofs.Ascending.{sorted-nil, sorted-cons, same_from_members}
use Rattle.samr_find.proofs.CellLists.{nat_less}
use Rattle.samr_stage.specs.Row.{along}
use Rattle.samr_level.specs.Refs.{Owned}
use Rattle.samr_level.specs.RefOrders.{ref_cmp}
use Rattle.samr_level.proofs.RefLaws.{same_nat, ref_total, same_from_ref_cmp}
use Rattle.samr_level.proofs.Sorting.{Member-in_order, Member-from_in_order, sorted-in_order}
use Rattle.samr_modify.specs.ModifyRow.{others}

-- the test for two boxes with the same owner
pub same_box : (a b : Owned) → is_eq (ref_cmp a b) ≡ true → a ≡ b
same_box a b t = same_from_ref_cmp a b ((Equal-is (ref_cmp a b)).0 t)

pub same_box-is : (a b : Owned) → a ≡ b → is_eq (ref_cmp a b) ≡ true
same_box-is a b e = ap (λ (v : Owned). is_eq (ref_cmp a v)) (sym e) ∙ ap is_eq (tied_itself ref_total a)

module _ {X : Type 0} where
  -- one member that passes a test
  pub any_from : (p : X → Bool) (xs : List X) → list_any p xs ≡ true → (x : X) × Member x xs × (p x ≡ true)
  any_from p [] t = absurd (false≢true t)
  any_from p (x ∷ xs) t = elim (or_cases (p x) (list_any p xs) t) [
    | inl here ↦ (x, inl refl, here)
    | inr later ↦ let r = any_from p xs later in (r.0, inr r.1, r.2)
  ]

  pub any_is : (p : X → Bool) (x : X) (xs : List X) → Member x xs → p x ≡ true → list_any p xs ≡ true
  any_is p x [] m t = absurd m
  any_is p x (y ∷ xs) (inl same) t = or_left (p y) (list_any p xs) (ap p (sym same) ∙ t)
  any_is p x (y ∷ xs) (inr m) t = or_right (p y) (list_any p xs) (any_is p x xs m t)

  -- members of a list that stands under a test
  pub from_cond : (t : Bool) (x : X) (xs : List X) → Member x (cond t xs []) → (t ≡ true) × Member x xs
  from_cond true x xs m = (refl, m)
  from_cond false x xs m = absurd m

  pub in_cond : (t : Bool) (x : X) (xs : List X) → t ≡ true → Member x xs → Member x (cond t xs [])
  in_cond t x xs e m = subst (λ (l : List X). Member x l) (sym (cond-true t xs [] e)) m

-- whether two ranks are the same
pub nat_same : (a b : ℕ) → nat_eq a b ≡ true → a ≡ b
nat_same a b t = grind (arith, nat_tests, t)

pub nat_is_same : (a b : ℕ) → a ≡ b → nat_eq a b ≡ true
nat_is_same a b e = grind (arith, nat_tests, e)

pub not_same : (r rank : ℕ) → not (nat_eq r rank) ≡ true → r ≢ rank
not_same r rank t same = grind (arith, nat_tests, t, same)

pub is_not_same : (r rank : ℕ) → r ≢ rank → not (nat_eq r rank) ≡ true
is_not_same r rank other = grind (arith, nat_tests, other)

-- the numbers of a range
pub Member-range : (n a k : ℕ) → a ≤ k → k < a + n → Member k (range_with_len a n)
Member-range zero a k low high = absurd (omega arith)
Member-range (suc n) a k low high = elim (cases_eq k a) [
  | inl here ↦ inl here
  | inr later ↦ inr (Member-range n (a + 1) k (omega (arith, later)) (omega arith))
]

pub Member-from_range : (n a k : ℕ) → Member k (range_with_len a n) → (a ≤ k) × (k < a + n)
Member-from_range zero a k m = absurd m
Member-from_range (suc n) a k (inl here) = (omega arith, omega arith)
Member-from_range (suc n) a k (inr later) = let r = Member-from_range n (a + 1) k later in let low = r.0 in let high = r.1 in (omega arith, omega arith)

range_sorted : (n a : ℕ) → IsStrictlySortedBy nat_cmp (range_with_len a n)
range_sorted zero a = sorted-nil nat_cmp
range_sorted (suc n) a =
    sorted-cons nat_cmp a (range_with_len (a + 1) n)
    (λ k m. let low = (Member-from_range n (a + 1) k m).0 in nat_less a k (omega arith)) (range_sorted n (a + 1))

-- a line that has a body exactly where a test holds
module _ {B X : Type 0} (make : ℕ → B → X) (test : ℕ → Bool) (body : ℕ → B) where
  picked : (xs : List ℕ) → filter_map (λ k. option_map (make k) (cond (test k) (Some (body k)) None)) xs ≡ map (λ k. make k (body k)) (filter test xs)
  picked [] = refl
  picked (x ∷ xs) = by (test x) (picked xs)
    where
      by : (t : Bool) → filter_map (λ k. option_map (make k) (cond (test k) (Some (body k)) None)) xs ≡ map (λ k. make k (body k)) (filter test xs)
          → cons_option (option_map (make x) (cond t (Some (body x)) None)) (filter_map (λ k. option_map (make k) (cond (test k) (Some (body k)) None)) xs)
          ≡ map (λ k. make k (body k)) (cond t (x ∷ filter test xs) (filter test xs))
      by true e = ap (λ l. make x (body x) ∷ l) e
      by false e = e

  pub along_picked : (n : ℕ) → along make (λ k. cond (test k) (Some (body k)) None) n ≡ map (λ k. make k (body k)) (filter test (range_with_len 0 n))
  unfolding along
  along_picked n = picked (range_with_len 0 n)

pub count_map : {X Y : Type 0} (f : X → Y) (xs : List X) → sum_by (λ (y : Y). 1) (map f xs) ≡ length xs
count_map f [] = refl
count_map f (x ∷ xs) = omega (arith, sum_by-cons (λ _. 1) (f x) (map f xs), count_map f xs)

-- the others among some ranks
module _ (rank : ℕ) (ranks : List ℕ) where
  pub Member-others : (k : ℕ) → Member k ranks → k ≢ rank → Member k (others rank ranks)
  unfolding others
  Member-others k m other =
      Member-in_order nat_cmp_total same_nat k (filter (λ r. not (nat_eq r rank)) ranks) (Member-filter (λ r. not (nat_eq r rank)) k ranks m (is_not_same k rank other))

  pub Member-from_others : (k : ℕ) → Member k (others rank ranks) → Member k ranks × (k ≢ rank)
  unfolding others
  Member-from_others k m =
      let f = Member-from_filter (λ r. not (nat_eq r rank)) k ranks (Member-from_in_order nat_cmp_total k (filter (λ r. not (nat_eq r rank)) ranks) m) in
      (f.0, not_same k rank f.1)

  others-sorted : IsStrictlySortedBy nat_cmp (others rank ranks)
  unfolding others
  others-sorted = sorted-in_order nat_cmp_total (filter (λ r. not (nat_eq r rank)) ranks)

  -- they are the ranks that pass a test
  pub others_are : (test : ℕ → Bool) (n : ℕ) → ((k : ℕ) → test k ≡ true → Member k ranks × (k ≢ rank)) → ((k : ℕ) → Member k ranks → k ≢ rank → (k < n) × (test k ≡ true))
      → filter test (range_with_len 0 n) ≡ others rank ranks
  others_are test n only all =
      same_from_members nat_cmp_total (filter test (range_with_len 0 n)) (others rank ranks)
      (IsStrictlySortedBy-filter nat_cmp test (range_with_len 0 n) (range_sorted n 0)) others-sorted
      (λ k m.
      let f = Member-from_filter test k (range_with_len 0 n) m in
      let r = only k f.1 in
      Member-others k r.0 r.1)
      (λ k m.
      let r = Member-from_others k m in
      let h = all k r.0 r.1 in
      let below = h.0 in
      Member-filter test k (range_with_len 0 n) (Member-range n 0 k (omega arith) (omega (arith, below))) h.1)

-- of the same ranks they are the same
pub others_same : (rank : ℕ) (xs ys : List ℕ) → ((k : ℕ) → Member k xs → Member k ys) → ((k : ℕ) → Member k ys → Member k xs) → others rank xs ≡ others rank ys
others_same rank xs ys f g =
    same_from_members nat_cmp_total (others rank xs) (others rank ys) (others-sorted rank xs) (others-sorted rank ys)
    (λ k m. let r = Member-from_others rank xs k m in Member-others rank ys k (f k r.0) r.1)
    (λ k m. let r = Member-from_others rank ys k m in Member-others rank xs k (g k r.0) r.1)

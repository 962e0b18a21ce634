-- Parcels in order: those for a box and a field stand together.
use Rattle.std.proofs.Common.{◌≡◌, ℕ, ◌+◌, ◌<◌, ◌≤◌, refl, sym, ap, ◌∙◌, subst, arith, length, take, drop}
use Rattle.std.proofs.lemmas.Bool.{false≢true}
use Rattle.std.proofs.lemmas.Cmp.{nat_cmp_total, on_total, then_total}
use Rattle.std.proofs.lemmas.List.{get_or-take, get_or-drop, length-take, length-drop, take-append-drop}
use Rattle.std.proofs.lemmas.List.Elements.{All-nil, filter-append}
use Rattle.std.proofs.lemmas.List.Sorted.{searchable_from_sorted, ranks_by, Contains-permutation, IsPermutation-sym}
use Rattle.std.specs.Cmp.{IsTotalOrder, IsStrictWeakOrder, tied_then, unsigned_ties}
use Rattle.std.specs.Prelude.{Bool, true, false, ◌&&◌, List, [], ◌++◌, filter, All, slice_index_or}
use Rattle.std.specs.List.{AllWithin}
use Rattle.std.specs.List.Sorted.{IsPartitionedBy, IsPartitionPoint, IsNonDecreasingBy, IsSortedBy, IsPermutation}
use Rattle.std.specs.Ordering.{is_lt, is_le, is_eq, nat_cmp, ordering_index}
use Rattle.std.specs.declared.cmp.Ordering.{Ordering}
use Rattle.std.specs.declared.cmp.Ordering.TheVariants.{Less, Equal, Greater}
use Rattle.samr_box.specs.Lists.{Member}
use Rattle.samr_box.proofs.Members.{member_from_contains, contains_from_member}
use Rattle.samr_stage.proofs.Lists.{filter_front}
use Rattle.samr_level.specs.Refs.{Owned}
use Rattle.samr_level.specs.RefOrders.{ref_cmp}
use Rattle.samr_level.proofs.RefLaws.{ref_total}
use Rattle.samr_data.specs.declared.parcel.Parcel.{Parcel}
use Rattle.samr_fill.specs.Writing.{is_for}
use Rattle.samr_fill.specs.Orders.{key_of, key_cmp, order_to, AreInOrder}

-- where an element stands, by a number
less_or_not : (o : Ordering) → is_lt o ≡ true → ordering_index o ≡ 0
less_or_not Less t = refl
less_or_not Equal t = absurd (false≢true t)
less_or_not Greater t = absurd (false≢true t)

less_from : (o : Ordering) → ordering_index o ≤ 0 → is_lt o ≡ true
less_from Less h = refl
less_from Equal h = absurd (omega (arith, h))
less_from Greater h = absurd (omega (arith, h))

up_to : (o : Ordering) → is_le o ≡ true → ordering_index o ≤ 1
up_to Less t = omega arith
up_to Equal t = omega arith
up_to Greater t = absurd (false≢true t)

up_to_from : (o : Ordering) → ordering_index o ≤ 1 → is_le o ≡ true
up_to_from Less h = refl
up_to_from Equal h = refl
up_to_from Greater h = absurd (omega (arith, h))

equal_between : (o : Ordering) → is_lt o ≡ false → is_le o ≡ true → is_eq o ≡ true
equal_between Less f t = absurd (false≢true (sym f))
equal_between Equal f t = refl
equal_between Greater f t = absurd (false≢true t)

not_equal_below : (o : Ordering) → is_lt o ≡ true → is_eq o ≡ false
not_equal_below Less t = refl
not_equal_below Equal t = absurd (false≢true t)
not_equal_below Greater t = refl

not_equal_above : (o : Ordering) → is_le o ≡ false → is_eq o ≡ false
not_equal_above Less f = absurd (false≢true (sym f))
not_equal_above Equal f = absurd (false≢true (sym f))
not_equal_above Greater f = refl

-- the two ends of what is equal, in a list that does not fall
module _ {X : Type 0} (order : X → Ordering) where
  pub less_first : (xs : List X) → IsNonDecreasingBy (λ y. ordering_index (order y)) xs → IsPartitionedBy (λ y. is_lt (order y)) xs
  less_first xs up i j d low high t =
      let later = up i j d low high in
      let none = less_or_not (order (slice_index_or xs j d)) t in
      less_from (order (slice_index_or xs i d)) (omega (arith, later, none))

  up_to_first : (xs : List X) → IsNonDecreasingBy (λ y. ordering_index (order y)) xs → IsPartitionedBy (λ y. is_le (order y)) xs
  up_to_first xs up i j d low high t =
      let later = up i j d low high in
      let one = up_to (order (slice_index_or xs j d)) t in
      up_to_from (order (slice_index_or xs i d)) (omega (arith, later, one))

  rest_rises : (xs : List X) (n : ℕ) → IsNonDecreasingBy (λ y. ordering_index (order y)) xs → IsNonDecreasingBy (λ y. ordering_index (order y)) (drop n xs)
  rest_rises xs n up i j d low high =
      rw (get_or-drop, get_or-drop) (up (n + i) (n + j) d (omega (arith, low)) (omega (arith, high, length-drop n xs)))

  All-taken : (P : X → Type 0) (xs : List X) (n : ℕ) → AllWithin P xs 0 n → All P (take n xs)
  All-taken P xs n h = λ k d within.
      let below : k < n = omega (arith, length-take n xs) in rw get_or-take (h k d (omega arith) below)

  All-dropped : (P : X → Type 0) (xs : List X) (n : ℕ) → AllWithin P xs n (length xs) → All P (drop n xs)
  All-dropped P xs n h = λ k d within. rw get_or-drop (h (n + k) d (omega arith) (omega (arith, length-drop n xs)))

  none_equal : (xs : List X) → All (λ y. is_eq (order y) ≡ false) xs → filter (λ y. is_eq (order y)) xs ≡ []
  none_equal xs h = filter_front (λ y. is_eq (order y)) xs 0 (All-nil (λ y. is_eq (order y) ≡ true)) h

  -- those between the two points are those that are equal
  equal_are : (xs : List X) (n m : ℕ) → IsPartitionPoint (λ y. is_lt (order y) ≡ true) (λ y. is_lt (order y) ≡ false) xs n
      → IsPartitionPoint (λ y. is_le (order y) ≡ true) (λ y. is_le (order y) ≡ false) (drop n xs) m → m ≤ length (drop n xs)
      → take m (drop n xs) ≡ filter (λ y. is_eq (order y)) xs
  equal_are xs n m first last within =
      let t : X → Bool = λ y. is_eq (order y) in
      let before = none_equal (take n xs) (All-taken (λ y. is_eq (order y) ≡ false) xs n (λ k d low below. not_equal_below (order (slice_index_or xs k d)) (first.0 k d low below))) in
      let lower = All-dropped (λ y. is_lt (order y) ≡ false) xs n first.1 in
      let inside = All-taken (λ y. is_eq (order y) ≡ true) (drop n xs) m
      (λ k d low below. equal_between (order (slice_index_or (drop n xs) k d)) (lower k d (omega (arith, below, within))) (last.0 k d low below)) in
      let outside = All-dropped (λ y. is_eq (order y) ≡ false) (drop n xs) m (λ k d from below. not_equal_above (order (slice_index_or (drop n xs) k d)) (last.1 k d from below)) in
      sym
      (ap (filter t) (sym (take-append-drop n xs)) ∙ filter-append t (take n xs) (drop n xs) ∙ ap (λ (l : List X). l ++ filter t (drop n xs)) before
      ∙ filter_front t (drop n xs) m inside outside)

  -- the same as the searches find them: where the less end, and how many are equal from there on
  pub between_are : (xs tail : List X) (n m : ℕ) → IsNonDecreasingBy (λ y. ordering_index (order y)) xs → tail ≡ drop n xs
      → IsPartitionPoint (λ y. is_lt (order y) ≡ true) (λ y. is_lt (order y) ≡ false) xs n
      → (IsPartitionedBy (λ y. is_le (order y)) tail → IsPartitionPoint (λ y. is_le (order y) ≡ true) (λ y. is_le (order y) ≡ false) tail m) → m ≤ length tail
      → take m tail ≡ filter (λ y. is_eq (order y)) xs
  between_are xs tail n m up same first =
      let P : List X → Type 0 = λ l.
      (IsPartitionedBy (λ y. is_le (order y)) l → IsPartitionPoint (λ y. is_le (order y) ≡ true) (λ y. is_le (order y) ≡ false) l m) → m ≤ length l
      → take m l ≡ filter (λ y. is_eq (order y)) xs in
      subst P (sym same) (λ last within. equal_are xs n m first (last (up_to_first (drop n xs) (rest_rises xs n up))) within)

-- a list and its permutation have the same members
pub member_after : {X : Type 0} (xs ys : List X) → IsPermutation xs ys → (x : X) → Member x xs → Member x ys
member_after xs ys same x m = member_from_contains x ys (Contains-permutation xs ys x same (contains_from_member x xs m))

pub member_before : {X : Type 0} (xs ys : List X) → IsPermutation xs ys → (x : X) → Member x ys → Member x xs
member_before xs ys same = member_after ys xs (IsPermutation-sym xs ys same)

key_total : IsTotalOrder key_cmp
key_total = then_total (on_total (λ (k : Owned × ℕ). k.0) ref_total) (on_total (λ (k : Owned × ℕ). k.1) nat_cmp_total)

-- what a sort asks of the comparison of two parcels
pub parcels_ranked : IsStrictWeakOrder (λ (p q : Parcel). is_lt (order_to q.edge.head q.field p))
parcels_ranked = ranks_by key_total key_of

pub in_order_from : (all : List Parcel) → IsSortedBy (λ p q. is_lt (order_to q.edge.head q.field p)) all → AreInOrder all
unfolding AreInOrder
in_order_from all sorted = sorted

-- what the searches ask
pub rises : (base : Owned) (field : ℕ) (all : List Parcel) → AreInOrder all → IsNonDecreasingBy (λ p. ordering_index (order_to base field p)) all
unfolding AreInOrder
rises base field all sorted = searchable_from_sorted key_total key_of all (base, field) sorted

pub equal_is : (base : Owned) (field : ℕ) (p : Parcel) → is_eq (order_to base field p) ≡ is_for base field p
equal_is base field p =
    sym (ap (λ (t : Bool). is_eq (ref_cmp p.edge.head base) && t) (unsigned_ties p.field field) ∙ tied_then (ref_cmp p.edge.head base) (nat_cmp p.field field))

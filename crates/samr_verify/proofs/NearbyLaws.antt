-- A look at the heads in the windows of a base box finds all its edges.
use Rattle.std.proofs.Common.{◌≡◌, ℕ, ◌+◌, refl, sym, ap, ◌∙◌, subst, inl, inr, arith, length, append_assoc, length-append}
use Rattle.std.proofs.lemmas.Bool.{false≢true, or_cases, or_left, or_right}
use Rattle.std.proofs.lemmas.Cmp.{nat_cmp_total}
use Rattle.std.proofs.Math.Dec.{eqb}
use Rattle.std.proofs.lemmas.Bool.Decides.{nat_tests}
use Rattle.std.proofs.lemmas.List.Kept.{IsStrictlySortedBy-dedup, Contains-from_dedup, Contains-dedup_nat}
use Rattle.std.proofs.lemmas.List.Sorted.{Contains-permutation, IsPermutation-sym}
use Rattle.std.specs.Prelude.{Bool, true, false, cond, Option, Some, None, List, [], ◌∷◌, ◌++◌, map, filter, All}
use Rattle.std.specs.List.{flat_map, slice_get, list_any, dedup}
use Rattle.std.specs.List.Sorted.{IsPermutation, IsSorted}
use Rattle.std.specs.Ordering.{nat_cmp, eq_by_cmp}
use Rattle.std.specs.Option.{option_map_or}
use Rattle.samr_box.specs.declared.vector.IVec.{IVec}
use Rattle.samr_box.specs.Vector.{IsRatio}
use Rattle.samr_box.specs.Corners.{Corners, IsBox, meets}
use Rattle.samr_box.specs.Lists.{Member}
use Rattle.samr_box.proofs.Ascending.{same_from_members}
use Rattle.samr_box.proofs.Members.{Member-map, Member-flat_map, Member-from_flat_map, member_of_All, member_from_contains, contains_from_member}
use Rattle.samr_bridge.specs.Search.{window}
use Rattle.samr_bridge.proofs.Windows.{meets-window}
use Rattle.samr_find.specs.Places.{places_from, places_of, passes_at, meeting}
use Rattle.samr_find.proofs.PlaceLists.{passes-from_place, place-from_passes, places-sorted}
use Rattle.samr_find.specs.Buckets.{where_true}
use Rattle.samr_level.specs.Refs.{Owned, link}
use Rattle.samr_level.specs.Overlaps.{Scale, near, is_true}
use Rattle.samr_verify.specs.Nearby.{at_place, in_windows, edges_between, edges_from}

-- the first box counted or not
from_cons : (test : Corners → Bool) (n : ℕ) (a : Corners) (rest : List Corners) (t : Bool) → test a ≡ t → places_from n test (a ∷ rest) ≡ where_true t n ++ places_from (n + 1) test rest
from_cons test n a rest true e = rw e refl
from_cons test n a rest false e = rw e refl

here_at : {X : Type 0} (before : List X) (x : X) (xs : List X) → slice_get (before ++ x ∷ xs) (length before) ≡ Some x
here_at [] x xs = refl
here_at (y ∷ before) x xs = here_at before x xs

module _ {X Y : Type 0} (box : X → Corners) (f : X → List Y) (test : Corners → Bool) where
  abbrev Found : List X → List X → ℕ → Type 0
  Found all xs n = flat_map (λ place. at_place f all place) (places_from n test (map box xs)) ≡ flat_map f xs

  one_more : (before : List X) (x : X) (xs : List X) → Found ((before ++ x ∷ []) ++ xs) xs (length (before ++ x ∷ [])) → Found (before ++ x ∷ xs) xs (length before + 1)
  one_more before x xs rest =
      subst (λ (n : ℕ). Found (before ++ x ∷ xs) xs n) (length-append before (x ∷ []))
      (subst (λ (l : List X). Found l xs (length (before ++ x ∷ []))) (append_assoc before (x ∷ []) xs) rest)

  by_test : (before : List X) (x : X) (xs : List X) (t : Bool) → test (box x) ≡ t → (test (box x) ≡ false → f x ≡ [])
      → Found (before ++ x ∷ xs) xs (length before + 1) → Found (before ++ x ∷ xs) (x ∷ xs) (length before)
  by_test before x xs true e none rest =
      ap (flat_map (λ place. at_place f (before ++ x ∷ xs) place)) (from_cons test (length before) (box x) (map box xs) true e)
      ∙ ap (λ o. option_map_or f o [] ++ flat_map (λ place. at_place f (before ++ x ∷ xs) place) (places_from (length before + 1) test (map box xs))) (here_at before x xs)
      ∙ ap (λ l. f x ++ l) rest
  by_test before x xs false e none rest =
      ap (flat_map (λ place. at_place f (before ++ x ∷ xs) place)) (from_cons test (length before) (box x) (map box xs) false e)
      ∙ rest ∙ ap (λ l. l ++ flat_map f xs) (sym (none e))

  from_places : (before xs : List X) → ((x : X) → Member x xs → test (box x) ≡ false → f x ≡ []) → Found (before ++ xs) xs (length before)
  from_places before [] none = refl
  from_places before (x ∷ xs) none =
      by_test before x xs (test (box x)) refl (none x (inl refl)) (one_more before x xs (from_places (before ++ x ∷ []) xs (λ y m. none y (inr m))))

  pub looked_up : (xs : List X) → ((x : X) → Member x xs → test (box x) ≡ false → f x ≡ []) → flat_map (λ place. at_place f xs place) (places_of test (map box xs)) ≡ flat_map f xs
  looked_up xs none = from_places [] xs none

-- a test that holds nowhere
any_here : {X : Type 0} (test : X → Bool) (x : X) (xs : List X) → Member x xs → test x ≡ true → list_any test xs ≡ true
any_here test x [] m t = absurd m
any_here test x (y ∷ xs) (inl e) t = or_left (test y) (list_any test xs) (ap test (sym e) ∙ t)
any_here test x (y ∷ xs) (inr m) t = or_right (test y) (list_any test xs) (any_here test x xs m t)

none_pass : {X : Type 0} (p : X → Bool) (xs : List X) → ((x : X) → Member x xs → p x ≡ true → ⊥) → filter p xs ≡ []
none_pass p [] h = refl
none_pass p (x ∷ xs) h = by (p x) refl (none_pass p xs (λ y m. h y (inr m)))
  where
    by : (t : Bool) → p x ≡ t → filter p xs ≡ [] → cond (p x) (x ∷ filter p xs) (filter p xs) ≡ []
    by true e rest = absurd (h x (inl refl) e)
    by false e rest = rw e rest

-- outside of all windows there is no edge
outside : (n : Scale) (ss : List IVec) (a b : Owned) → IsRatio n.head → IsBox b.bx → in_windows n ss a.bx b.bx ≡ false → edges_between n ss a b ≡ []
outside n ss a b ratio whole out = at_shifts ss (λ s m. m)
  where
    at_shifts : (rest : List IVec) → ((s : IVec) → Member s rest → Member s ss) → filter (λ e. is_true n e) (map (λ s. link a b s) rest) ≡ []
    at_shifts [] within = refl
    at_shifts (s ∷ rest) within = by (near n a.bx b.bx s) refl (at_shifts rest (λ t m. within t (inr m)))
      where
        by : (t : Bool) → near n a.bx b.bx s ≡ t → filter (λ e. is_true n e) (map (λ s. link a b s) rest) ≡ [] → filter (λ e. is_true n e) (map (λ s. link a b s) (s ∷ rest)) ≡ []
        by true e end = absurd (false≢true (sym out ∙ any_here (λ s. meets b.bx (window n a.bx s)) s ss (within s (inl refl)) (meets-window n a.bx b.bx s ratio whole e)))
        by false e end = rw e end

-- the edges of a base box, by the places of the heads in its windows
pub found_near : (n : Scale) (ss : List IVec) (heads : List Owned) (all : List Corners) (a : Owned) → all ≡ map (λ b. b.bx) heads → All IsBox all → IsRatio n.head
    → flat_map (λ place. at_place (λ b. edges_between n ss a b) heads place) (places_of (λ b. in_windows n ss a.bx b) all) ≡ edges_from n ss heads a
found_near n ss heads all a same whole ratio =
    ap (λ (l : List Corners). flat_map (λ place. at_place (λ b. edges_between n ss a b) heads place) (places_of (λ b. in_windows n ss a.bx b) l)) same
    ∙ looked_up (λ (b : Owned). b.bx) (λ b. edges_between n ss a b) (λ b. in_windows n ss a.bx b) heads
    (λ b m. outside n ss a b ratio (member_of_All IsBox b.bx all whole (subst (λ (l : List Corners). Member b.bx l) (sym same) (Member-map (λ (b : Owned). b.bx) b heads m))))

-- a place whose box passes one test, and another that follows
passes_more : (t u : Corners → Bool) (boxes : List Corners) (p : ℕ) → ((b : Corners) → t b ≡ true → u b ≡ true) → passes_at t boxes p ≡ true → passes_at u boxes p ≡ true
passes_more t u boxes p more h = by (slice_get boxes p) h
  where
    by : (o : Option Corners) → option_map_or t o false ≡ true → option_map_or u o false ≡ true
    by None h = h
    by (Some b) h = more b h

any_from : {X : Type 0} (test : X → Bool) (xs : List X) → list_any test xs ≡ true → (x : X) × Member x xs × (test x ≡ true)
any_from test [] h = absurd (false≢true h)
any_from test (x ∷ xs) h = elim (or_cases (test x) (list_any test xs) h) [
  | inl here ↦ (x, inl refl, here)
  | inr later ↦ let r = any_from test xs later in (r.0, inr r.1, r.2)
]

nat_ties : (x y : ℕ) → eqb x y ≡ eq_by_cmp nat_cmp x y
nat_ties x y = grind (arith, nat_tests)

module _ (n : Scale) (ss : List IVec) (all : List Corners) (a : Corners) where
  passes_one : (p : ℕ) → passes_at (λ b. in_windows n ss a b) all p ≡ true → (s : IVec) × Member s ss × (passes_at (λ b. meets b (window n a s)) all p ≡ true)
  passes_one p h = by (slice_get all p) h
    where
      by : (o : Option Corners) → option_map_or (λ b. in_windows n ss a b) o false ≡ true → (s : IVec) × Member s ss × (option_map_or (λ b. meets b (window n a s)) o false ≡ true)
      by None h = absurd (false≢true h)
      by (Some b) h = any_from (λ s. meets b (window n a s)) ss h

  windows_place : (p : ℕ) → Member p (flat_map (λ s. meeting all (window n a s)) ss) → Member p (places_of (λ b. in_windows n ss a b) all)
  unfolding meeting
  windows_place p m =
      let r = Member-from_flat_map (λ s. meeting all (window n a s)) p ss m in
      place-from_passes (λ b. in_windows n ss a b) all p
      (passes_more (λ b. meets b (window n a r.0)) (λ b. in_windows n ss a b) all p (λ b h. any_here (λ s. meets b (window n a s)) r.0 ss r.1 h)
      (passes-from_place (λ b. meets b (window n a r.0)) all p r.2))

  place_windows : (p : ℕ) → Member p (places_of (λ b. in_windows n ss a b) all) → Member p (flat_map (λ s. meeting all (window n a s)) ss)
  unfolding meeting
  place_windows p m =
      let r = passes_one p (passes-from_place (λ b. in_windows n ss a b) all p m) in
      Member-flat_map (λ s. meeting all (window n a s)) p r.0 ss r.1 (place-from_passes (λ b. meets b (window n a r.0)) all p r.2)

  -- the places found, sorted and without doubles
  pub near_is : (found sorted kept : List ℕ) → found ≡ flat_map (λ s. meeting all (window n a s)) ss → IsPermutation found sorted → IsSorted nat_cmp sorted → kept ≡ dedup eqb sorted
      → kept ≡ places_of (λ b. in_windows n ss a b) all
  near_is found sorted kept is permutation in_order once =
      same_from_members nat_cmp_total kept (places_of (λ b. in_windows n ss a b) all)
      (rw once (IsStrictlySortedBy-dedup nat_cmp_total (λ x y. nat_ties x y) sorted in_order))
      (places-sorted (λ b. in_windows n ss a b) all)
      (λ p m. windows_place p
      (member_from_contains p (flat_map (λ s. meeting all (window n a s)) ss)
      (rw is at (Contains-permutation _ _ p (IsPermutation-sym _ _ permutation) (Contains-from_dedup _ _ p (rw once at (contains_from_member p kept m)))))))
      (λ p m. member_from_contains p kept
      (rw once (Contains-dedup_nat sorted p (Contains-permutation _ _ p permutation
      (rw (← is) at (contains_from_member p (flat_map (λ s. meeting all (window n a s)) ss) (place_windows p m)))))))

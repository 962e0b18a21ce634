-- What a finder's buckets have, and what a look into them finds.
use Rattle.std.proofs.Common.{◌≡◌, ℕ, ◌+◌, ◌<◌, Bool, true, false, List, [], ◌∷◌, ◌++◌, length, take, get_or, Option, Some, None, refl, sym, ap, ◌∙◌, subst, inl, inr, arith}
use Rattle.std.specs.List.{slice_get}
use Rattle.std.specs.Option.{option_map_or, unwrap_or}
use Rattle.std.proofs.lemmas.Option.{slice_get_cases}
use Rattle.std.specs.Prelude.{All, ◌↔◌}
use Rattle.std.specs.BTreeMap.{BTreeMap}
use Rattle.std.specs.List.{dedup}
use Rattle.std.specs.List.Sorted.{IsPermutation, IsSorted, IsStrictlySortedBy}
use Rattle.std.specs.Ordering.{nat_cmp, eq_by_cmp}
use Rattle.std.proofs.Math.Dec.{eqb}
use Rattle.std.proofs.lemmas.Bool.Decides.{nat_tests}
use Rattle.std.proofs.lemmas.List.Kept.{IsStrictlySortedBy-dedup, Contains-from_dedup, Contains-dedup_nat}
use Rattle.std.proofs.lemmas.List.Sorted.{Contains-permutation, IsPermutation-sym}
use Rattle.std.proofs.lemmas.List.{take_more, length-take-le}
use Rattle.std.proofs.lemmas.List.Elements.{All-push}
use Rattle.std.proofs.lemmas.Cmp.{nat_cmp_total}
use Rattle.samr_box.specs.declared.vector.IVec.{IVec}
use Rattle.samr_box.specs.Vector.{greatest}
use Rattle.samr_box.specs.Corners.{Corners, IsBox, Holds, Meet, holds, meets, common}
use Rattle.samr_box.specs.Ratios.{coarse, coarsened}
use Rattle.samr_box.specs.Lists.{Member}
use Rattle.samr_box.proofs.CellSets.{Meet-test, holds-from, Holds-common, Holds-lo, order-common}
use Rattle.samr_box.proofs.Members.{Member-filter, Member-from_filter, Member-flat_map, Member-from_flat_map, member_from_contains, contains_from_member}
use Rattle.samr_box.proofs.Ascending.{same_from_members}
use Rattle.samr_find.specs.Places.{IsEdge, meeting, places_of, passes_at, in_bucket, edge_of, bucket}
use Rattle.samr_find.specs.Buckets.{AreBuckets, places_at, where_true, found_in, near}
use Rattle.samr_find.specs.Cells.{cells_in}
use Rattle.samr_find.proofs.CellLists.{Member-cells}
use Rattle.samr_find.proofs.Edges.{meets-bucket, holds-number}
use Rattle.samr_find.proofs.PlaceLists.{places-push, passes-from_place, place-from_passes, places-sorted}

module _ {V : Type 0} (items : V → List ℕ) where
  -- the buckets of one box more
  pub buckets-more : (boxes : List Corners) (edge : IVec) (old new : BTreeMap IVec V) (n : ℕ) (b numbers : Corners) → n < length boxes → AreBuckets items (take n boxes) edge old
      → b ≡ get_or boxes n b → numbers ≡ coarsened b edge
      → ((q : IVec) → places_at items new q ≡ places_at items old q ++ where_true (holds numbers q) n)
      → AreBuckets items (take (n + 1) boxes) edge new
  buckets-more boxes edge old new n b numbers below are here is step = λ q.
      let test : Corners → Bool = λ a. holds (coarsened a edge) q in
      let len : length (take n boxes) ≡ n = length-take-le n boxes (omega arith) in
      step q
      ∙ ap (λ xs. xs ++ where_true (holds numbers q) n) (are q)
      ∙ ap (λ t. places_of test (take n boxes) ++ where_true t n) (ap (λ v. holds v q) is)
      ∙ ap (λ m. places_of test (take n boxes) ++ where_true (test b) m) (sym len)
      ∙ sym (places-push test (take n boxes) b)
      ∙ ap (places_of test) (ap (λ a. take n boxes ++ a ∷ []) here ∙ sym (take_more boxes n b below))

pub whole-more : (boxes : List Corners) (n : ℕ) (b : Corners) → n < length boxes → All IsBox (take n boxes) → b ≡ get_or boxes n b → IsBox b → All IsBox (take (n + 1) boxes)
whole-more boxes n b below all here whole =
    let is : take (n + 1) boxes ≡ take n boxes ++ b ∷ [] = take_more boxes n b below ∙ ap (λ a. take n boxes ++ a ∷ []) (sym here) in
    subst (λ xs. All IsBox xs) (sym is) (All-push IsBox (take n boxes) b all whole)

-- a list of places filtered by two tests that are the same
pub same_places : (test other : Corners → Bool) (boxes : List Corners) → ((a : Corners) → test a ≡ other a) → places_of test boxes ≡ places_of other boxes
same_places test other boxes same = ap (λ t. places_of t boxes) (λ i a. same a i)

pub bucket-is : (boxes : List Corners) (x : IVec) → IsEdge (edge_of boxes) → in_bucket boxes x ≡ places_of (λ a. holds (coarsened a (edge_of boxes)) (coarse x (edge_of boxes))) boxes
unfolding in_bucket
bucket-is boxes x edge = same_places (λ a. meets a (bucket (edge_of boxes) (coarse x (edge_of boxes)))) (λ a. holds (coarsened a (edge_of boxes)) (coarse x (edge_of boxes))) boxes (λ a. meets-bucket a (edge_of boxes) (coarse x (edge_of boxes)) edge)

-- what is found near passes, and all that passes is found near
found-passes : (boxes : List Corners) (b : Corners) (c : IVec) (p : ℕ) → Member p (found_in boxes b c) → passes_at (λ a. meets a b) boxes p ≡ true
unfolding found_in
found-passes boxes b c p m = (Member-from_filter (passes_at (λ a. meets a b) boxes) p (places_of (λ a. holds (coarsened a (edge_of boxes)) c) boxes) m).1

passes-found : (boxes : List Corners) (b : Corners) (c : IVec) (p : ℕ) → passes_at (λ a. meets a b) boxes p ≡ true → passes_at (λ a. holds (coarsened a (edge_of boxes)) c) boxes p ≡ true → Member p (found_in boxes b c)
unfolding found_in
passes-found boxes b c p meets_there is_there =
    Member-filter (passes_at (λ a. meets a b) boxes) p (places_of (λ a. holds (coarsened a (edge_of boxes)) c) boxes)
    (place-from_passes (λ a. holds (coarsened a (edge_of boxes)) c) boxes p is_there) meets_there

near-passes : (boxes : List Corners) (b : Corners) (p : ℕ) → Member p (near boxes b) → Member p (meeting boxes b)
unfolding near meeting
near-passes boxes b p m =
    let r = Member-from_flat_map (λ c. found_in boxes b c) p (cells_in (coarsened b (edge_of boxes))) m in
    place-from_passes (λ a. meets a b) boxes p (found-passes boxes b r.0 p r.2)

-- a place with a box that passes
at_place : (test : Corners → Bool) (boxes : List Corners) (p : ℕ) → passes_at test boxes p ≡ true → (a : Corners) × (slice_get boxes p ≡ Some a) × (test a ≡ true)
at_place test boxes p passes = by (slice_get boxes p) refl passes
  where
    by : (o : Option Corners) → slice_get boxes p ≡ o → option_map_or test o false ≡ true → (a : Corners) × (slice_get boxes p ≡ Some a) × (test a ≡ true)
    by None e t = absurd cc
    by (Some a) e t = (a, e, t)

box_at : (boxes : List Corners) (p : ℕ) (a : Corners) → All IsBox boxes → slice_get boxes p ≡ Some a → IsBox a
box_at boxes p a all here = elim (slice_get_cases boxes p).1 [
  | inl (x, within, is, same) ↦
      let box : IsBox x = subst (λ v. IsBox v) same (all p x within) in
      subst (λ v. IsBox v) (ap (λ o. unwrap_or o a) (sym is ∙ here)) box
  | inr (past, none) ↦ absurd (let e = sym none ∙ here in cc)
]

passes_from : (test : Corners → Bool) (boxes : List Corners) (p : ℕ) (a : Corners) → slice_get boxes p ≡ Some a → test a ≡ true → passes_at test boxes p ≡ true
passes_from test boxes p a here passes = ap (λ o. option_map_or test o false) here ∙ passes

-- two boxes that meet have a cell in a common bucket
common_bucket : (a b : Corners) (e : IVec) → IsEdge e → IsBox a → IsBox b → Meet a b → (c : IVec) × Holds (coarsened a e) c × Holds (coarsened b e) c
common_bucket a b e is one other meet =
    let x = greatest a.lo b.lo in
    let both = (Holds-common a b x).0 (Holds-lo {b = common a b} (order-common one.order other.order meet)) in
    (coarse x e, holds-number is both.0, holds-number is both.1)

passes-near : (boxes : List Corners) (b : Corners) (p : ℕ) → IsEdge (edge_of boxes) → All IsBox boxes → IsBox b → Member p (meeting boxes b) → Member p (near boxes b)
unfolding near meeting
passes-near boxes b p is all whole m =
    let passes = passes-from_place (λ a. meets a b) boxes p m in
    let r = at_place (λ a. meets a b) boxes p passes in
    let shared = common_bucket r.0 b (edge_of boxes) is (box_at boxes p r.0 all r.1) whole (Meet-test r.2) in
    let c = shared.0 in
    Member-flat_map (λ c. found_in boxes b c) p c (cells_in (coarsened b (edge_of boxes))) (Member-cells (coarsened b (edge_of boxes)) c shared.2)
    (passes-found boxes b c p passes (passes_from (λ a. holds (coarsened a (edge_of boxes)) c) boxes p r.0 r.1 (holds-from shared.1)))

meeting-sorted : (boxes : List Corners) (b : Corners) → IsStrictlySortedBy nat_cmp (meeting boxes b)
unfolding meeting
meeting-sorted boxes b = places-sorted (λ a. meets a b) boxes

-- the places found near, put into order and each once
pub meeting-is : (boxes : List Corners) (b : Corners) (places : List ℕ) → IsEdge (edge_of boxes) → All IsBox boxes → IsBox b → IsStrictlySortedBy nat_cmp places
    → ((p : ℕ) → Member p places ↔ Member p (near boxes b)) → places ≡ meeting boxes b
meeting-is boxes b places is all whole sorted members =
    same_from_members nat_cmp_total places (meeting boxes b) sorted (meeting-sorted boxes b)
    (λ p m. near-passes boxes b p ((members p).0 m)) (λ p m. (members p).1 (passes-near boxes b p is all whole m))

-- the places in a bucket, by what a finder keeps
pub kept-places : (boxes inside : List Corners) (edge c : IVec) (places : List ℕ) → inside ≡ boxes → edge ≡ edge_of inside
    → places ≡ places_of (λ a. holds (coarsened a edge) c) inside → places ≡ places_of (λ a. holds (coarsened a (edge_of boxes)) c) boxes
kept-places boxes inside edge c places view is here =
    here ∙ ap (λ e. places_of (λ a. holds (coarsened a e) c) inside) is ∙ ap (λ v. places_of (λ a. holds (coarsened a (edge_of v)) c) v) view

-- the places of one box more
pub meeting-more : (boxes : List Corners) (b : Corners) (n : ℕ) (a : Corners) (places next : List ℕ) (t : Bool) → n < length boxes → a ≡ get_or boxes n a
    → places ≡ places_of (λ a. meets a b) (take n boxes) → t ≡ meets a b → next ≡ places ++ where_true t n → next ≡ places_of (λ a. meets a b) (take (n + 1) boxes)
meeting-more boxes b n a places next t below here so_far is step =
    let len : length (take n boxes) ≡ n = length-take-le n boxes (omega arith) in
    step ∙ ap (λ xs. xs ++ where_true t n) so_far ∙ ap (λ v. places_of (λ a. meets a b) (take n boxes) ++ where_true v n) is
    ∙ ap (λ m. places_of (λ a. meets a b) (take n boxes) ++ where_true (meets a b) m) (sym len)
    ∙ sym (places-push (λ a. meets a b) (take n boxes) a)
    ∙ ap (places_of (λ a. meets a b)) (ap (λ v. take n boxes ++ v ∷ []) here ∙ sym (take_more boxes n a below))

nat_ties : (x y : ℕ) → eqb x y ≡ eq_by_cmp nat_cmp x y
nat_ties x y = grind (arith, nat_tests)

-- the places found near, sorted and without doubles
pub found-is : (boxes inside : List Corners) (edge : IVec) (b : Corners) (found sorted kept : List ℕ) → inside ≡ boxes → edge ≡ edge_of inside → IsEdge edge → All IsBox inside → IsBox b
    → found ≡ near boxes b → IsPermutation found sorted → IsSorted nat_cmp sorted → kept ≡ dedup eqb sorted → kept ≡ meeting boxes b
found-is boxes inside edge b found sorted kept view is fits all whole near_is permutation in_order once =
    meeting-is boxes b kept
    (subst (λ v. IsEdge (edge_of v)) view (subst (λ e. IsEdge e) is fits))
    (subst (λ v. All IsBox v) view all) whole
    (rw once (IsStrictlySortedBy-dedup nat_cmp_total (λ x y. nat_ties x y) sorted in_order))
    (λ p. (
      λ m. member_from_contains p (near boxes b) (rw near_is at (Contains-permutation _ _ p (IsPermutation-sym _ _ permutation) (Contains-from_dedup _ _ p (rw once at (contains_from_member p kept m))))),
      λ m. member_from_contains p kept (rw once (Contains-dedup_nat sorted p (Contains-permutation _ _ p permutation (rw (← near_is) at (contains_from_member p (near boxes b) m))))),
    ))

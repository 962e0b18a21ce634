-- The blocks of a box have its cells, each once.
use Rattle.std.proofs.Common.{◌≡◌, ℕ, zero, suc, ◌+◌, ◌<◌, ◌≤◌, ◌^◌, refl, sym, subst, inl, inr, arith, sum_by}
use Rattle.std.proofs.lemmas.Int.{ints}
use Rattle.std.proofs.lemmas.Bool.{cases_lt}
use Rattle.std.proofs.lemmas.List.Sums.{sum_by-cons}
use Rattle.std.proofs.Math.Nat.{mul-le-mul}
use Rattle.std.specs.Prelude.{ℤ, pos, ◌≤ℤ◌, ◌-ℤ◌, ◌+ℤ◌, unsigned_abs, Bool, true, false, List, [], ◌∷◌, map, ◌⊎◌}
use Rattle.std.specs.List.{flat_map, range_with_len}
use Rattle.samr_box.specs.declared.vector.Axis.TheVariants.{I, J, K}
use Rattle.samr_box.specs.declared.vector.IVec.{IVec}
use Rattle.samr_box.specs.Vector.{alike, Between, AtMost}
use Rattle.samr_box.specs.Corners.{Corners, IsBox, Holds, holds, cells_of}
use Rattle.samr_box.specs.Lists.{Member}
use Rattle.samr_box.proofs.CellSets.{Holds-test, Holds-lo, Holds-hi}
use Rattle.samr_box.proofs.Members.{Member-from_map, Member-from_flat_map}
use Rattle.samr_boxlist.specs.Covers.{cover, IsDisjoint}
use Rattle.samr_boxlist.proofs.Covering.{one, cover-cons, cover-append, cover-single, cover-held}
use Rattle.samr_level.specs.Blocks.{blocks_along, place, block_at, blocks_of}
use Rattle.samr_level.proofs.Domains.{held-from, member-held}
use Rattle.samr_level.proofs.BlockCells.{Member-over_places, Member-from_over_places, place_at, block-within, block-around, one_place}
use Rattle.samr_level.proofs.BlockPlaces.{IsBox-block_at}
use Rattle.samr_rounds.specs.Laws.{IsNode}
use Rattle.samr_rounds.specs.Roots.{AreRoots}

-- of numbers of which at most one is positive, and is 1, the sum is at most 1
none_left : (f : ℕ → ℕ) (n a : ℕ) → ((i : ℕ) → a ≤ i → f i ≡ 0) → sum_by f (range_with_len a n) ≡ 0
none_left f zero a none = refl
none_left f (suc n) a none =
    omega (arith, sum_by-cons f a (range_with_len (a + 1) n), none a (omega arith), none_left f n (a + 1) (λ i h. none i (omega (arith, h))))

few_sum : (f : ℕ → ℕ) (n a : ℕ) → ((i : ℕ) → f i ≤ 1) → ((i j : ℕ) → 0 < f i → 0 < f j → i ≡ j) → sum_by f (range_with_len a n) ≤ 1
few_sum f zero a low once = omega arith
few_sum f (suc n) a low once =
    elim (cases_lt 0 (f a)) [
      | inl here ↦
          let rest = none_left f n (a + 1) (λ i h. no_more i h here (cases_lt 0 (f i))) in
          omega (arith, sum_by-cons f a (range_with_len (a + 1) n), low a, rest)
      | inr none ↦ omega (arith, sum_by-cons f a (range_with_len (a + 1) n), none, few_sum f n (a + 1) low once)
    ]
  where
    no_more : (i : ℕ) → a + 1 ≤ i → 0 < f a → ((0 < f i) ⊎ (f i ≤ 0)) → f i ≡ 0
    no_more i h here (inl there) = let e = once a i here there in absurd (omega (arith, e, h))
    no_more i h here (inr none) = omega (arith, none)

-- a cell in lists that numbers give
cover_flat : (v : IVec) (g : ℕ → List Corners) (xs : List ℕ) → cover v (flat_map g xs) ≡ sum_by (λ i. cover v (g i)) xs
cover_flat v g [] = refl
cover_flat v g (i ∷ xs) = omega (arith, cover-append v (g i) (flat_map g xs), cover_flat v g xs, sum_by-cons (λ i. cover v (g i)) i xs)

cover_map : (v : IVec) (h : ℕ → Corners) (xs : List ℕ) → cover v (map h xs) ≡ sum_by (λ i. one (holds (h i) v)) xs
cover_map v h [] = refl
cover_map v h (i ∷ xs) = omega (arith, cover-cons v (h i) (map h xs), cover_map v h xs, sum_by-cons (λ i. one (holds (h i) v)) i xs)

one_low : (t : Bool) → one t ≤ 1
one_low true = omega arith
one_low false = omega arith

one_true : (t : Bool) → 0 < one t → t ≡ true
one_true true h = refl
one_true false h = absurd (omega (arith, h))

-- a box inside another has no more cells
span_less : (lo hi l h : ℤ) → lo ≤ℤ l → l ≤ℤ h → h ≤ℤ hi → unsigned_abs ((h -ℤ l) +ℤ pos 1) ≤ unsigned_abs ((hi -ℤ lo) +ℤ pos 1)
span_less lo hi l h p q r = omega (arith, ints)

pub cells_less : (b c : Corners) → AtMost c.lo c.hi → ((x : IVec) → Holds c x → Holds b x) → cells_of c ≤ cells_of b
cells_less b c full inside =
    let p = (inside c.lo (Holds-lo {b = c} full)).low in
    let q = (inside c.hi (Holds-hi {b = c} full)).high in
    mul-le-mul
    (mul-le-mul (span_less b.lo.i b.hi.i c.lo.i c.hi.i p.i full.i q.i) (span_less b.lo.j b.hi.j c.lo.j c.hi.j p.j full.j q.j))
    (span_less b.lo.k b.hi.k c.lo.k c.hi.k p.k full.k q.k)

module _ (block : IVec) (b : Corners) (size : Between (alike (pos 1)) block (alike (pos 1073741824))) (box : IsBox b) (few : cells_of b < 2 ^ 63) where
  at_place : ℕ → ℕ → ℕ → Corners
  at_place z y x = block_at block b (place x y z)

  row : ℕ → ℕ → List Corners
  row z y = map (at_place z y) (range_with_len 0 (blocks_along I block b))

  plane : ℕ → List Corners
  plane z = flat_map (row z) (range_with_len 0 (blocks_along J block b))

  same_place : (v : IVec) (x y z x' y' z' : ℕ) → Holds (at_place z y x) v → Holds (at_place z' y' x') v → (x ≡ x') × (y ≡ y') × (z ≡ z')
  unfolding at_place
  same_place v x y z x' y' z' h g = one_place block b v x y z x' y' z' size.low h g

  in_row : (v : IVec) (z y : ℕ) → 0 < cover v (row z y) → (x : ℕ) × Holds (at_place z y x) v
  unfolding row
  in_row v z y h =
      let r = member-held v (row z y) (cover-held v (row z y) h) in
      let o = Member-from_map (at_place z y) r.0 (range_with_len 0 (blocks_along I block b)) r.1 in
      (o.0, subst (λ (c : Corners). Holds c v) o.2 r.2)

  in_plane : (v : IVec) (z : ℕ) → 0 < cover v (plane z) → (y : ℕ) × (x : ℕ) × Holds (at_place z y x) v
  unfolding row plane
  in_plane v z h =
      let r = member-held v (plane z) (cover-held v (plane z) h) in
      let o = Member-from_flat_map (row z) r.0 (range_with_len 0 (blocks_along J block b)) r.1 in
      let u = Member-from_map (at_place z o.0) r.0 (range_with_len 0 (blocks_along I block b)) o.2 in
      (o.0, u.0, subst (λ (c : Corners). Holds c v) u.2 r.2)

  row_few : (v : IVec) (z y : ℕ) → cover v (row z y) ≤ 1
  unfolding row
  row_few v z y =
      let e = cover_map v (at_place z y) (range_with_len 0 (blocks_along I block b)) in
      let f = few_sum (λ x. one (holds (at_place z y x) v)) (blocks_along I block b) 0 (λ x. one_low (holds (at_place z y x) v))
      (λ x x' h g. (same_place v x y z x' y z (Holds-test (one_true (holds (at_place z y x) v) h)) (Holds-test (one_true (holds (at_place z y x') v) g))).0) in
      omega (arith, e, f)

  plane_few : (v : IVec) (z : ℕ) → cover v (plane z) ≤ 1
  unfolding plane
  plane_few v z =
      let e = cover_flat v (row z) (range_with_len 0 (blocks_along J block b)) in
      let f = few_sum (λ y. cover v (row z y)) (blocks_along J block b) 0 (λ y. row_few v z y)
      (λ y y' h g. let r = in_row v z y h in let s = in_row v z y' g in (same_place v r.0 y z s.0 y' z r.1 s.1).1) in
      omega (arith, e, f)

  blocks_few : IsDisjoint (blocks_of block b)
  unfolding blocks_of plane row at_place
  blocks_few v =
      let e = cover_flat v plane (range_with_len 0 (blocks_along K block b)) in
      let f = few_sum (λ z. cover v (plane z)) (blocks_along K block b) 0 (λ z. plane_few v z)
      (λ z z' h g. let r = in_plane v z h in let s = in_plane v z' g in (same_place v r.1 r.0 z s.1 s.0 z' r.2 s.2).2) in
      omega (arith, e, f)

  a_block : (c : Corners) → Member c (blocks_of block b) → IsBox c × ((x : IVec) → Holds c x → Holds b x)
  unfolding blocks_of
  a_block c m =
      let r = Member-from_over_places block b (λ x y z. block_at block b (place x y z)) c m in
      let there = place_at size.low box.order r.3 in (
        subst IsBox (sym r.4) (IsBox-block_at block b (place r.0 r.1 r.2) size box there),
        λ x h. block-within block b (place r.0 r.1 r.2) x size.low there (subst (λ (v : Corners). Holds v x) r.4 h),
      )

  pub blocks_are_roots : AreRoots b (blocks_of block b)
  unfolding blocks_of
  blocks_are_roots = record {
    nodes = λ c m.
        let is = a_block c m in
        let less = cells_less b c is.0.order is.1 in
        record { whole = is.0; few = omega (arith, few, less) };
    apart = blocks_few;
    cells = λ x. (
      λ t. let r = member-held x (blocks_of block b) t in (a_block r.0 r.1).1 x r.2,
      λ h.
          let r = block-around block b x size.low h in
          held-from x (block_at block b (place r.0 r.1 r.2)) (blocks_of block b)
          (Member-over_places block b (λ x y z. block_at block b (place x y z)) r.0 r.1 r.2 r.3) r.4,
    );
  }

-- a box alone
pub alone_is_root : (b : Corners) → IsBox b → cells_of b < 2 ^ 63 → AreRoots b (b ∷ [])
alone_is_root b box few = record {
  nodes = λ c m. node c m;
  apart = λ x. let e = cover-single x b in let l = one_low (holds b x) in omega (arith, e, l);
  cells = λ x. (λ t. let r = member-held x (b ∷ []) t in only x r.0 r.1 r.2, λ h. held-from x b (b ∷ []) (inl refl) h);
}
  where
    node : (c : Corners) → Member c (b ∷ []) → IsNode c
    node c (inl same) = subst IsNode (sym same) (record { whole = box; few = few })
    node c (inr none) = absurd none

    only : (x : IVec) (c : Corners) → Member c (b ∷ []) → Holds c x → Holds b x
    only x c (inl same) h = subst (λ (v : Corners). Holds v x) same h
    only x c (inr none) h = absurd none

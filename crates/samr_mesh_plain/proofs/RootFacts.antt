-- The tiles of a frame, made as the blocks of a level 0 of one rank.
use Rattle.std.proofs.Common.{◌≡◌, ℕ, zero, suc, ◌+◌, ◌<◌, ◌≤◌, ◌==◌, Bool, true, false, cond, nat_lt, length, refl, sym, ap, subst, ◌∙◌, inl, inr, arith}
use Rattle.std.proofs.lemmas.Int.{ints}
use Rattle.std.proofs.lemmas.Bool.{lt-ltb, or_cases, and_parts, false≢true}
use Rattle.std.proofs.lemmas.Cmp.{tied_itself, int_cmp_total, int_ranked, ranked}
use Rattle.std.proofs.lemmas.List.{append-nil}
use Rattle.std.specs.Prelude.{ℤ, pos, ◌+ℤ◌, ◌*ℤ◌, ◌≤ℤ◌, ◌<ℤ◌, List, [], ◌∷◌, map}
use Rattle.std.proofs.Common.{of_z}
use Rattle.std.specs.Int.{w64}
use Rattle.std.specs.List.{flat_map, range_with_len}
use Rattle.std.specs.List.Sorted.{IsStrictlySortedBy}
use Rattle.std.specs.Ordering.{nat_cmp, int_cmp, int_eq, MatchOrdering}
use Rattle.std.specs.declared.cmp.Ordering.{Ordering}
use Rattle.std.specs.declared.cmp.Ordering.TheVariants.{Less, Equal, Greater}
use Rattle.samr_box.specs.declared.vector.Axis.TheVariants.{I, J, K}
use Rattle.samr_box.specs.declared.vector.IVec.{IVec}
use Rattle.samr_box.specs.Vector.{alike, AtMost, Between}
use Rattle.samr_box.specs.Corners.{Corners, cells_of}
use Rattle.samr_box.specs.Lists.{Member}
use Rattle.samr_box.specs.Orders.{corner_cmp}
use Rattle.samr_box.specs.Space.{Space, whole}
use Rattle.samr_box.proofs.Ascending.{sorted-nil, sorted-cons, sorted-map, sorted-flat_map}
use Rattle.samr_box.proofs.Members.{Member-map, Member-from_map, Member-from_flat_map}
use Rattle.samr_box.proofs.Products.{mul_lt}
use Rattle.samr_level.specs.Blocks.{IsBlocking, blocks_along, place, block_at, blocks_of, blocks_in, with_owners, level0}
use Rattle.samr_level.specs.Refs.{Owned}
use Rattle.samr_level.specs.RefOrders.{ref_cmp, in_order}
use Rattle.samr_level.proofs.Level0Laws.{numbered_box, box_numbered, owners_below}
use Rattle.samr_level.proofs.RefLaws.{ref_total, same_from_ref_cmp}
use Rattle.samr_level.proofs.Sorting.{in_order_is}
use Rattle.samr_problem.specs.Fields.{Fields}
use Rattle.samr_problem.specs.Problems.{IsProblem}
use Rattle.samr_problem.specs.Values.{is_within}
use Rattle.samr_mesh.specs.Domains.{frame_at, tile_of}
use Rattle.samr_mesh.proofs.Grounding.{domain, int_is}
use Rattle.samr_mesh.proofs.Level0Bounds.{blocks_bound}
use Rattle.samr_mesh.proofs.Regions.{le_true}

-- the numbers of a range ascend
Member-from_range : (n a k : ℕ) → Member k (range_with_len a n) → a ≤ k
Member-from_range zero a k m = absurd m
Member-from_range (suc n) a k (inl here) = omega (arith, here)
Member-from_range (suc n) a k (inr later) = let r = Member-from_range n (a + 1) k later in omega (arith, r)

nat_less : (x y : ℕ) → x < y → nat_cmp x y ≡ Less
nat_less x y less = let test : nat_lt x y ≡ true = lt-ltb x y less in rw test refl

less_of : (x y : ℕ) → nat_cmp x y ≡ Less → x < y
less_of x y is = by (nat_cmp x y) (ranked x y (nat_cmp x y) refl) is
  where
    by : (o : Ordering) → MatchOrdering o (x < y) (x ≡ y) (y < x) → o ≡ Less → x < y
    by Less m e = m
    by Equal m e = absurd cc
    by Greater m e = absurd cc

range_sorted : (n a : ℕ) → IsStrictlySortedBy nat_cmp (range_with_len a n)
range_sorted zero a = sorted-nil nat_cmp
range_sorted (suc n) a =
    sorted-cons nat_cmp a (range_with_len (a + 1) n)
    (λ k m. let low = Member-from_range n (a + 1) k m in nat_less a k (omega (arith, low))) (range_sorted n (a + 1))

int_less : (x y : ℤ) → x <ℤ y → int_cmp x y ≡ Less
int_less x y less = by (int_cmp x y) (int_ranked x y (int_cmp x y) refl)
  where
    by : (o : Ordering) → MatchOrdering o (x <ℤ y) (x ≡ y) (y <ℤ x) → o ≡ Less
    by Less m = refl
    by Equal m = absurd (omega (arith, ints))
    by Greater m = absurd (omega (arith, ints))

int_same : (x y : ℤ) → x ≡ y → int_cmp x y ≡ Equal
int_same x y e = subst (λ n. int_cmp x n ≡ Equal) e (tied_itself int_cmp_total x)

-- corner order by the lower corners
k_first : (a b : Corners) → a.lo.k <ℤ b.lo.k → corner_cmp a b ≡ Less
k_first a b less = let first : int_cmp a.lo.k b.lo.k ≡ Less = int_less a.lo.k b.lo.k less in rw first refl

j_first : (a b : Corners) → a.lo.k ≡ b.lo.k → a.lo.j <ℤ b.lo.j → corner_cmp a b ≡ Less
j_first a b same less =
    let first : int_cmp a.lo.k b.lo.k ≡ Equal = int_same a.lo.k b.lo.k same in
    let second : int_cmp a.lo.j b.lo.j ≡ Less = int_less a.lo.j b.lo.j less in rw (first, second) refl

i_first : (a b : Corners) → a.lo.k ≡ b.lo.k → a.lo.j ≡ b.lo.j → a.lo.i <ℤ b.lo.i → corner_cmp a b ≡ Less
i_first a b same level less =
    let first : int_cmp a.lo.k b.lo.k ≡ Equal = int_same a.lo.k b.lo.k same in
    let second : int_cmp a.lo.j b.lo.j ≡ Equal = int_same a.lo.j b.lo.j level in
    let third : int_cmp a.lo.i b.lo.i ≡ Less = int_less a.lo.i b.lo.i less in rw (first, second, third) refl

step_less : (r lo : ℤ) (n m : ℕ) → pos 1 ≤ℤ r → n < m → (lo +ℤ (pos n *ℤ r)) <ℤ (lo +ℤ (pos m *ℤ r))
step_less r lo n m one less = let h = mul_lt r (pos n) (pos m) (omega (arith, ints, one)) (omega (arith, ints, less)) in omega (arith, ints, h)

-- the blocks of a box stand in corner order
module _ (tile : IVec) (b : Corners) (low : AtMost (alike (pos 1)) tile) where
  line : ℕ → ℕ → List Corners
  line z y = map (λ x. block_at tile b (place x y z)) (range_with_len 0 (blocks_along I tile b))

  sheet : ℕ → List Corners
  sheet z = flat_map (λ y. line z y) (range_with_len 0 (blocks_along J tile b))

  in_line : (z y : ℕ) (c : Corners) → Member c (line z y) → (x : ℕ) × (c ≡ block_at tile b (place x y z))
  unfolding line
  in_line z y c m = let r = Member-from_map (λ x. block_at tile b (place x y z)) c (range_with_len 0 (blocks_along I tile b)) m in (r.0, r.2)

  in_sheet : (z : ℕ) (c : Corners) → Member c (sheet z) → (x : ℕ) × (y : ℕ) × (c ≡ block_at tile b (place x y z))
  unfolding sheet
  in_sheet z c m =
      let r = Member-from_flat_map (λ y. line z y) c (range_with_len 0 (blocks_along J tile b)) m in
      let s = in_line z r.0 c r.2 in (s.0, r.0, s.1)

  line_sorted : (z y : ℕ) → IsStrictlySortedBy corner_cmp (line z y)
  unfolding line block_at
  line_sorted z y =
      sorted-map nat_cmp corner_cmp (λ x. block_at tile b (place x y z)) (range_with_len 0 (blocks_along I tile b))
      (λ x n less. i_first (block_at tile b (place x y z)) (block_at tile b (place n y z)) refl refl (step_less tile.i b.lo.i x n low.i (less_of x n less)))
      (range_sorted (blocks_along I tile b) 0)

  rows_apart : (z y n x m : ℕ) → y < n → corner_cmp (block_at tile b (place x y z)) (block_at tile b (place m n z)) ≡ Less
  unfolding block_at
  rows_apart z y n x m less = j_first (block_at tile b (place x y z)) (block_at tile b (place m n z)) refl (step_less tile.j b.lo.j y n low.j less)

  planes_apart : (z n x y i j : ℕ) → z < n → corner_cmp (block_at tile b (place x y z)) (block_at tile b (place i j n)) ≡ Less
  unfolding block_at
  planes_apart z n x y i j less = k_first (block_at tile b (place x y z)) (block_at tile b (place i j n)) (step_less tile.k b.lo.k z n low.k less)

  sheet_sorted : (z : ℕ) → IsStrictlySortedBy corner_cmp (sheet z)
  unfolding sheet
  sheet_sorted z =
      sorted-flat_map nat_cmp corner_cmp (λ y. line z y) (range_with_len 0 (blocks_along J tile b)) (λ y. line_sorted z y)
      (λ y n c d less first second.
      let p = in_line z y c first in
      let q = in_line z n d second in
      rw (p.1, q.1) (rows_apart z y n p.0 q.0 (less_of y n less)))
      (range_sorted (blocks_along J tile b) 0)

  blocks_sorted : IsStrictlySortedBy corner_cmp (blocks_of tile b)
  unfolding blocks_of sheet line
  blocks_sorted =
      sorted-flat_map nat_cmp corner_cmp (λ z. sheet z) (range_with_len 0 (blocks_along K tile b)) (λ z. sheet_sorted z)
      (λ z n c d less first second.
      let p = in_sheet z c first in
      let q = in_sheet n d second in
      rw (p.2, q.2) (planes_apart z n p.0 p.1 q.0 q.1 (less_of z n less)))
      (range_sorted (blocks_along K tile b) 0)

-- boxes of rank 0
alone : Corners → Owned
alone c = record { owner = 0; bx = c }

alone_sorted : (bs : List Corners) → IsStrictlySortedBy corner_cmp bs → IsStrictlySortedBy ref_cmp (map alone bs)
unfolding alone
alone_sorted bs s = sorted-map corner_cmp ref_cmp alone bs (λ a b less. less) s

alone_boxes : (bs : List Corners) → map (λ o. o.bx) (map alone bs) ≡ bs
unfolding alone
alone_boxes [] = refl
alone_boxes (b ∷ bs) = ap (λ (l : List Corners). b ∷ l) (alone_boxes bs)

of_zero : (o : Owned) → o.owner < 1 → o ≡ alone o.bx
unfolding alone
of_zero o h = let e : o.owner ≡ 0 = omega (arith, h) in ap (λ (n : ℕ). let v : Owned = record { owner = n; bx = o.bx } in v) e

-- boxes in corner order, all with the one owner that there is
one_owner : (bs : List Corners) → IsStrictlySortedBy corner_cmp bs → map alone bs ≡ in_order ref_cmp (with_owners 1 bs)
unfolding with_owners
one_owner bs s =
    in_order_is ref_total same_from_ref_cmp (with_owners 1 bs) (map alone bs) (alone_sorted bs s)
    (λ o m.
    let r = Member-from_map alone o bs m in
    let n = box_numbered (length bs) 1 0 bs r.0 r.1 in
    let owner = owners_below (length bs) 1 0 bs n.0 (omega arith) (omega arith) n.1 in
    let same : n.0 ≡ o = of_zero n.0 owner ∙ ap alone n.2 ∙ sym r.2 in
    subst (λ (v : Owned). Member v (with_owners 1 bs)) same n.1)
    (λ o m.
    let owner = owners_below (length bs) 1 0 bs o (omega arith) (omega arith) m in
    subst (λ (v : Owned). Member v (map alone bs)) (sym (of_zero o owner)) (Member-map alone o.bx bs (numbered_box (length bs) 1 0 bs o m)))

pub tiles_are : (tile : IVec) (frame : Space) (level : List Owned) (boxes : List Corners) → IsBlocking tile (whole frame ∷ [])
    → level ≡ level0 (record { frame = frame; parts = [] }) tile 1 → boxes ≡ map (λ o. o.bx) level → boxes ≡ blocks_of tile (whole frame)
unfolding level0
tiles_are tile frame level boxes can e f =
    let bs = blocks_of tile (whole frame) in
    let list : blocks_in tile (whole frame ∷ []) ≡ bs = append-nil bs in
    f
    ∙ ap (λ (l : List Owned). map (λ o. o.bx) l)
    (e ∙ ap (λ (l : List Corners). in_order ref_cmp (with_owners 1 l)) list ∙ sym (one_owner bs (blocks_sorted tile (whole frame) can.low)))
    ∙ alone_boxes bs

-- the frame of a level can be cut into tiles
tile_is : (p : Fields) → IsProblem p → int_eq p.tile (pos 0) ≡ false → Between (alike (pos 1)) (tile_of p) (alike (pos 1073741824))
unfolding is_within
tile_is p is not_zero =
    elim (or_cases (int_eq p.tile (pos 0)) (is_within (pos 8) (pos 4194304) p.tile) is.tile) [
      | inl zero_tile ↦ absurd (false≢true (sym not_zero ∙ zero_tile))
      | inr some ↦
          let h = and_parts _ _ some in
          let low = le_true (pos 8) p.tile h.0 in
          let high = le_true p.tile (pos 4194304) h.1 in
          let k = third (p.dim == 2) low high in
          record {
            low = record { k = k.0; j = omega (arith, ints, low); i = omega (arith, ints, low) };
            high = record { k = k.1; j = omega (arith, ints, high); i = omega (arith, ints, high) };
          }
    ]
  where
    third : (t : Bool) → pos 8 ≤ℤ p.tile → p.tile ≤ℤ pos 4194304 → (pos 1 ≤ℤ cond t (pos 1) p.tile) × (cond t (pos 1) p.tile ≤ℤ pos 1073741824)
    third true low high = (omega (arith, ints), omega (arith, ints))
    third false low high = (omega (arith, ints, low), omega (arith, ints, high))

pub tiles_fit : (p : Fields) (l : ℕ) (tile : IVec) (frame : Space) → IsProblem p → l < p.levels → int_eq p.tile (pos 0) ≡ false → tile ≡ tile_of p → frame ≡ frame_at p l → IsBlocking tile (whole frame ∷ [])
tiles_fit p l tile frame is h some e f =
    let fits : IsBlocking (tile_of p) (whole (frame_at p l) ∷ []) = record {
      low = (tile_is p is some).low;
      high = (tile_is p is some).high;
      few =
          let cells = (domain p is l h).few in
          let count = blocks_bound (tile_of p) 4194304 (tile_is p is some).low (whole (frame_at p l) ∷ []) (λ q m. subst (λ (c : Corners). cells_of c ≤ 4194304) (sym (only q m)) cells) in
          omega (arith, count);
    } in
    subst (λ (v : IVec). IsBlocking v (whole frame ∷ [])) (sym e) (subst (λ (d : Space). IsBlocking (tile_of p) (whole d ∷ [])) (sym f) fits)
  where
    only : (q : Corners) → Member q (whole (frame_at p l) ∷ []) → q ≡ whole (frame_at p l)
    only q (inl same) = same
    only q (inr none) = absurd none

pub tile_some : (p : Fields) (z : ℤ) → z ≡ p.tile → (of_z w64 z ≡ 0 → ⊥) → int_eq p.tile (pos 0) ≡ false
tile_some p z e none = by (int_eq p.tile (pos 0)) refl
  where
    by : (t : Bool) → int_eq p.tile (pos 0) ≡ t → t ≡ false
    by true h =
        let zero : z ≡ pos 0 = e ∙ int_is p.tile (pos 0) h in
        absurd (none (ap (of_z w64) zero))
    by false h = refl

-- The merged values of the cells under a fine box.
use Rattle.std.proofs.Common.{◌≡◌, ℕ, suc, ◌+◌, ◌*◌, ◌<◌, ◌≤◌, length, get_or, take, refl, sym, ap, ◌∙◌, subst, arith}
use Rattle.std.proofs.lemmas.Int.{ints, clamps}
use Rattle.std.proofs.lemmas.Nat.{mul-le}
use Rattle.std.proofs.lemmas.Bool.{and_parts, and_from}
use Rattle.std.proofs.lemmas.List.{take_more, take_all, get_or-map}
use Rattle.std.proofs.lemmas.List.FromFn.{length-enumerate_from, get_or-enumerate_from}
use Rattle.std.proofs.lemmas.Slice.Zip.{get_or-zip}
use Rattle.std.proofs.lemmas.Grind.{flat_map-append}
use Rattle.std.specs.Prelude.{ℤ, pos, ◌≤ℤ◌, ◌<ℤ◌, ◌*ℤ◌, ◌-ℤ◌, ◌^◌, Bool, true, false, cond, List, [], ◌∷◌, ◌++◌, map, zip, Option, Some, None, IfSome}
use Rattle.std.specs.List.{flat_map, enumerate_from}
use Rattle.samr_box.specs.declared.vector.Axis.{Axis}
use Rattle.samr_box.specs.declared.vector.Axis.TheVariants.{I, J, K}
use Rattle.samr_box.specs.declared.vector.IVec.{IVec}
use Rattle.samr_box.specs.Vector.{AtMost, at_most, IsRatio}
use Rattle.samr_box.specs.Corners.{Corners, IsBox, Holds, holds_box, span, cells_of, meets, met, common}
use Rattle.samr_box.specs.Ratios.{coarsened, refined}
use Rattle.samr_box.specs.Lists.{Member}
use Rattle.samr_box.proofs.CellSets.{AtMost-test, at_most-from, holds_box-means}
use Rattle.samr_box.proofs.Floors.{floor-mul, floor-last}
use Rattle.samr_box.proofs.Products.{mul_le, mul_one, mul_comm, mul-minus}
use Rattle.samr_box.proofs.Totals.{same_corners}
use Rattle.samr_box.proofs.Vectors.{same_cell, AtMost-refl, AtMost-trans}
use Rattle.samr_level.specs.Refs.{Link}
use Rattle.samr_data.specs.Places.{cell_at, one_cell}
use Rattle.samr_data.specs.Grids.{Grid, IsGrid, over, value_at}
use Rattle.samr_data.specs.Values.{listed}
use Rattle.samr_data.proofs.Lists.{length-listed, value_in-listed, listed_same}
use Rattle.samr_data.proofs.PlaceLaws.{cell_at_holds, place-cell_at, part_cells}
use Rattle.samr_ops.specs.declared.rules.CoarsenRule.{CoarsenRule}
use Rattle.samr_ops.specs.declared.rules.CoarsenRule.TheVariants.{First}
use Rattle.samr_ops.specs.Rules.{coarsened_value}
use Rattle.samr_values.specs.declared.merging.Merge.{Merge}
use Rattle.samr_values.specs.Patches.{HasField}
use Rattle.samr_values.specs.Coarsen.{IsRefinement}
use Rattle.samr_values.specs.Merging.{merged_by, merge_of, merges}
use Rattle.samr_values.proofs.Ranges.{refined_full}
use Rattle.samr_values.proofs.Written.{inside_over}

-- a part of a box is one
pub part_box : (b part : Corners) → IsBox b → holds_box b part ≡ true → AtMost part.lo part.hi → IsBox part
part_box b part is t full =
    let s = and_parts (at_most b.lo part.lo) (at_most part.hi b.hi) t in
    record { low = AtMost-trans is.low (AtMost-test {a = b.lo} {b = part.lo} s.0); order = full; high = AtMost-trans (AtMost-test {a = part.hi} {b = b.hi} s.1) is.high }

-- the fine cells over a coarse one, or over a part of a coarse box
pub one_full : (x r : IVec) → IsRatio r → AtMost (refined (one_cell x) r).lo (refined (one_cell x) r).hi
one_full x r q = refined_full (one_cell x) r (AtMost-refl x) q

few_spans : (axis : Axis) (x r : IVec) → IsRatio r → span axis (refined (one_cell x) r) ≤ 256
few_spans I x r q = omega (arith, ints, q.low.i, q.high.i)
few_spans J x r q = omega (arith, ints, q.low.j, q.high.j)
few_spans K x r q = omega (arith, ints, q.low.k, q.high.k)

pub few_children : (x r : IVec) → IsRatio r → cells_of (refined (one_cell x) r) ≤ 16777216
few_children x r q =
    let b = refined (one_cell x) r in
    mul-le (span I b * span J b) (span K b) 65536 256 (mul-le (span I b) (span J b) 256 256 (few_spans I x r q) (few_spans J x r q)) (few_spans K x r q)

pub refined_inside : (c part : Corners) (r : IVec) → IsRatio r → AtMost c.lo part.lo → AtMost part.hi c.hi → holds_box (refined c r) (refined part r) ≡ true
refined_inside c part r q low high =
    let a = refined c r in
    let b = refined part r in
    and_from (at_most a.lo b.lo) (at_most b.hi a.hi)
    (at_most-from {a = a.lo} {b = b.lo} (record {
      k = mul_le r.k c.lo.k part.lo.k (omega (arith, ints, q.low.k)) low.k;
      j = mul_le r.j c.lo.j part.lo.j (omega (arith, ints, q.low.j)) low.j;
      i = mul_le r.i c.lo.i part.lo.i (omega (arith, ints, q.low.i)) low.i;
    }))
    (at_most-from {a = b.hi} {b = a.hi} (
    let k = mul_le r.k part.hi.k c.hi.k (omega (arith, ints, q.low.k)) high.k in
    let j = mul_le r.j part.hi.j c.hi.j (omega (arith, ints, q.low.j)) high.j in
    let i = mul_le r.i part.hi.i c.hi.i (omega (arith, ints, q.low.i)) high.i in
    record { k = omega (arith, ints, k); j = omega (arith, ints, j); i = omega (arith, ints, i) }))

pub box_trans : (a b c : Corners) → holds_box a b ≡ true → holds_box b c ≡ true → holds_box a c ≡ true
box_trans a b c p q =
    let s = and_parts (at_most a.lo b.lo) (at_most b.hi a.hi) p in
    let t = and_parts (at_most b.lo c.lo) (at_most c.hi b.hi) q in
    and_from (at_most a.lo c.lo) (at_most c.hi a.hi)
    (at_most-from {a = a.lo} {b = c.lo} (AtMost-trans (AtMost-test {a = a.lo} {b = b.lo} s.0) (AtMost-test {a = b.lo} {b = c.lo} t.0)))
    (at_most-from {a = c.hi} {b = a.hi} (AtMost-trans (AtMost-test {a = c.hi} {b = b.hi} t.1) (AtMost-test {a = b.hi} {b = a.hi} s.1)))

pub children_inside : (b region : Corners) (x r : IVec) → IsRatio r → Holds region x → holds_box b (refined region r) ≡ true → holds_box b (refined (one_cell x) r) ≡ true
children_inside b region x r q h t = box_trans b (refined region r) (refined (one_cell x) r) t (refined_inside region (one_cell x) r q h.low h.high)

-- a region has no more cells than those over it
wider : (lo hi r : ℤ) → pos 1 ≤ℤ r → lo ≤ℤ hi → (hi -ℤ lo) ≤ℤ ((hi *ℤ r) -ℤ (lo *ℤ r))
wider lo hi r p h =
    let m = mul_le (hi -ℤ lo) (pos 1) r (omega (arith, ints)) p in
    let one = mul_one (hi -ℤ lo) in
    let turned = mul_comm r (hi -ℤ lo) in
    let apart = mul-minus hi lo r in
    omega (arith, ints, m, one, turned, apart)

wider_spans : (axis : Axis) (b : Corners) (r : IVec) → IsRatio r → AtMost b.lo b.hi → span axis b ≤ span axis (refined b r)
wider_spans I b r q h = let w = wider b.lo.i b.hi.i r.i q.low.i h.i in omega (arith, ints, w, q.low.i, h.i)
wider_spans J b r q h = let w = wider b.lo.j b.hi.j r.j q.low.j h.j in omega (arith, ints, w, q.low.j, h.j)
wider_spans K b r q h = let w = wider b.lo.k b.hi.k r.k q.low.k h.k in omega (arith, ints, w, q.low.k, h.k)

pub region_few : (p : Grid) (region : Corners) (r : IVec) → IsGrid p → IsRatio r → AtMost region.lo region.hi → holds_box p.bx (refined region r) ≡ true
    → cells_of region < 2 ^ 62
region_few p region r is q full t =
    let b = refined region r in
    let less = mul-le (span I region * span J region) (span K region) (span I b * span J b) (span K b)
    (mul-le (span I region) (span J region) (span I b) (span J b) (wider_spans I region r q full) (wider_spans J region r q full))
    (wider_spans K region r q full) in
    let most = part_cells (over p) b (inside_over p b is t) (refined_full region r full q) in
    omega (arith, less, most, is.few)

-- the values of a region, cell by cell
pub one_more_value : (region : Corners) (f : IVec → ℕ) (n : ℕ) (x : IVec) (y : ℕ) (was now : List ℕ) → AtMost region.lo region.hi → n < cells_of region
    → x ≡ cell_at region n → y ≡ f x → was ≡ take n (listed region f) → now ≡ was ++ y ∷ [] → now ≡ take (n + 1) (listed region f)
one_more_value region f n x y was now full below here is before step =
    let list = listed region f in
    let count = length-listed region f in
    let at : get_or list n 0 ≡ f (cell_at region n) =
    ap (λ (k : ℕ). get_or list k 0) (sym (place-cell_at region n)) ∙ value_in-listed region f (cell_at region n) (cell_at_holds region n full below) in
    step
    ∙ ap (λ (l : List ℕ). l ++ y ∷ []) before
    ∙ ap (λ (z : ℕ). take n list ++ z ∷ []) (is ∙ ap f here ∙ sym at)
    ∙ sym (take_more list n 0 (omega (arith, below, count)))

pub all_values : (region : Corners) (f : IVec → ℕ) (n : ℕ) → cells_of region ≤ n → length (listed region f) ≤ n
all_values region f n h = let count = length-listed region f in omega (arith, h, count)

pub all_taken : {X : Type 0} (xs : List X) (n : ℕ) → length xs ≤ n → take n xs ≡ xs
all_taken xs n h = take_all n xs h

-- values of a patch that are those of a field
pub merged_same : (m : Merge) (p : Grid) (patches : List Grid) (b region : Corners) (v : IVec → ℕ) → IsRatio m.step → Member p patches → p.bx ≡ b
    → holds_box b (refined region m.step) ≡ true → AtMost region.lo region.hi → HasField v patches
    → listed region (merged_by m (value_at p)) ≡ listed region (merged_by m v)
merged_same m p patches b region v q member same inside full has =
    listed_same region (merged_by m (value_at p)) (merged_by m v) full
    (λ x h.
    let c = refined (one_cell x) m.step in
    let order = one_full x m.step q in
    ap (λ (l : List ℕ). coarsened_value m.rule m.modulus l)
    (listed_same c (value_at p) v order
    (λ y g. has p y member (subst (λ (d : Corners). Holds d y) (sym same) ((holds_box-means b c order).0 (children_inside b region x m.step q h inside) y g)))))

-- the cells under a refined box
pub coarsened_refined : (c : Corners) (r : IVec) → IsRatio r → coarsened (refined c r) r ≡ c
coarsened_refined c r q =
    let k : pos 0 <ℤ r.k = omega (arith, ints, q.low.k) in
    let j : pos 0 <ℤ r.j = omega (arith, ints, q.low.j) in
    let i : pos 0 <ℤ r.i = omega (arith, ints, q.low.i) in
    same_corners (same_cell (floor-mul r.k c.lo.k k) (floor-mul r.j c.lo.j j) (floor-mul r.i c.lo.i i))
    (same_cell (floor-last r.k c.hi.k k) (floor-last r.j c.hi.j j) (floor-last r.i c.hi.i i))

common_low : (a b : Corners) → AtMost a.lo (common a b).lo
common_low a b = record { k = omega (arith, ints, clamps); j = omega (arith, ints, clamps); i = omega (arith, ints, clamps) }

common_high : (a b : Corners) → AtMost (common a b).hi a.hi
common_high a b = record { k = omega (arith, ints, clamps); j = omega (arith, ints, clamps); i = omega (arith, ints, clamps) }

pub under_inside : (e : Link) (r : IVec) (o : Option Corners) → IsRatio r → o ≡ met (coarsened e.base.bx r) e.head.bx → IsRefinement r e.base.bx
    → IfSome o (λ region. holds_box e.base.bx (refined region r) ≡ true)
under_inside e r o q is (c, box, same) =
    let under : coarsened e.base.bx r ≡ c = ap (λ (b : Corners). coarsened b r) same ∙ coarsened_refined c r q in
    subst (λ (v : Option Corners). IfSome v (λ region. holds_box e.base.bx (refined region r) ≡ true))
    (sym (is ∙ ap (λ (b : Corners). met b e.head.bx) under)) (by (meets c e.head.bx))
  where
    by : (t : Bool) → IfSome (cond t (Some (common c e.head.bx)) None) (λ region. holds_box e.base.bx (refined region r) ≡ true)
    by true =
        subst (λ (b : Corners). holds_box b (refined (common c e.head.bx) r) ≡ true) (sym same)
        (refined_inside c (common c e.head.bx) r q (common_low c e.head.bx) (common_high c e.head.bx))
    by false = tt

-- one more item of a list that is made of lists
pub one_more_list : {X Y : Type 0} (f : X → List Y) (xs : List X) (i : ℕ) (x : X) (was now : List Y) → i < length xs → x ≡ get_or xs i x
    → was ≡ flat_map f (take i xs) → now ≡ was ++ f x → now ≡ flat_map f (take (i + 1) xs)
one_more_list {X} {Y} f xs i x was now below here before step =
    step
    ∙ ap (λ (l : List Y). l ++ f x) before
    ∙ ap (λ (l : List Y). flat_map f (take i xs) ++ l) (sym (end (f x)))
    ∙ sym (flat_map-append f (take i xs) (x ∷ []))
    ∙ ap (λ (l : List X). flat_map f l) (sym (take_more xs i x below ∙ ap (λ (y : X). take i xs ++ y ∷ []) (sym here)))
  where
    end : (l : List Y) → l ++ [] ≡ l
    end [] = refl
    end (y ∷ l) = ap (λ (m : List Y). y ∷ m) (end l)

-- how each field is merged
length_zip : {X Y : Type 0} (xs : List X) (ys : List Y) → length xs ≡ length ys → length (zip xs ys) ≡ length xs
length_zip [] ys e = refl
length_zip (x ∷ xs) [] e = absurd (omega (arith, e))
length_zip (x ∷ xs) (y ∷ ys) e = let h = length_zip xs ys (omega (arith, e)) in omega (arith, h)

pub length_merges : (step : IVec) (rules : List CoarsenRule) (moduli : List ℕ) → length rules ≡ length moduli → length (merges step rules moduli) ≡ length rules
length_merges step rules moduli e =
    length_map (λ (f : ℕ × (CoarsenRule × ℕ)). merge_of step f) (enumerate_from 0 (zip rules moduli))
    ∙ length-enumerate_from 0 (zip rules moduli) ∙ length_zip rules moduli e
  where
    length_map : {X Y : Type 0} (f : X → Y) (xs : List X) → length (map f xs) ≡ length xs
    length_map f [] = refl
    length_map f (x ∷ xs) = ap suc (length_map f xs)

pub one_more_merge : (step : IVec) (rules : List CoarsenRule) (moduli : List ℕ) (n : ℕ) (m : Merge) (was now : List Merge) → length rules ≡ length moduli → n < length rules
    → m ≡ merge_of step (n, (get_or rules n First, get_or moduli n 0)) → was ≡ take n (merges step rules moduli) → now ≡ was ++ m ∷ []
    → now ≡ take (n + 1) (merges step rules moduli)
one_more_merge step rules moduli n m was now same below is before add =
    let list = merges step rules moduli in
    let pairs = zip rules moduli in
    let all = enumerate_from 0 pairs in
    let d : ℕ × (CoarsenRule × ℕ) = (0, (First, 0)) in
    let count = length_merges step rules moduli same in
    let few = length_zip rules moduli same in
    let long = length-enumerate_from 0 pairs in
    let first : 0 + n ≡ n = omega arith in
    let at : get_or list n m ≡ m =
    get_or-map (λ (f : ℕ × (CoarsenRule × ℕ)). merge_of step f) all n d m (omega (arith, below, few, long))
    ∙ ap (λ (f : ℕ × (CoarsenRule × ℕ)). merge_of step f) (get_or-enumerate_from 0 pairs n d (omega (arith, below, few)))
    ∙ ap (λ (k : ℕ). merge_of step (k, get_or pairs n (First, 0))) first
    ∙ ap (λ (f : CoarsenRule × ℕ). merge_of step (n, f)) (get_or-zip rules moduli n (First, 0) below (omega (arith, below, same)))
    ∙ sym is in
    add ∙ ap (λ (l : List Merge). l ++ m ∷ []) before ∙ ap (λ (x : Merge). take n list ++ x ∷ []) (sym at) ∙ sym (take_more list n m (omega (arith, below, count)))

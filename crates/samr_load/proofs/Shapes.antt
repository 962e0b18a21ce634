-- What cuts do to boxes: their planes, their cells, and the planes across the longest axis.
use Rattle.std.proofs.Common.{◌≡◌, ℕ, ◌+◌, ◌*◌, ◌<◌, ◌≤◌, refl, sym, ap, ◌∙◌, inl, inr, arith, nat_le}
use Rattle.std.proofs.Math.Nat.{mul_comm, mul_assoc, add-mul, mul-pos, mul-le-mul, mul-le-mul_left, mul-le-mul_right}
use Rattle.std.proofs.lemmas.Bool.{cond_both, and_parts, and_cases, leb-true, leb-false}
use Rattle.std.proofs.lemmas.Int.{ints}
use Rattle.std.specs.Prelude.{ℤ, pos, ◌+ℤ◌, Bool, true, false, cond, ◌&&◌, ◌⊎◌}
use Rattle.samr_box.specs.declared.vector.Axis.{Axis}
use Rattle.samr_box.specs.declared.vector.Axis.TheVariants.{I, J, K}
use Rattle.samr_box.specs.declared.vector.IVec.{IVec}
use Rattle.samr_box.specs.Vector.{at, AtMost}
use Rattle.samr_box.specs.Corners.{Corners, holds, cells_of, span, longest_of, before, from_plane}
use Rattle.samr_box.proofs.CellSets.{Holds-before, Holds-from_plane}
use Rattle.samr_boxlist.proofs.Covering.{one}
use Rattle.samr_boxlist.proofs.Chopping.{split-cover}
use Rattle.samr_load.specs.Pieces.{Placed, size_of}
use Rattle.samr_load.specs.Taking.{across}
use Rattle.samr_load.specs.Laws.{IsThin}
use Rattle.samr_load.proofs.Parting.{IsSolid, Cuts, SharesOut, Inherits}

-- both parts have a cell
pub solid_inherits : Inherits IsSolid
solid_inherits I q plane c h = (
  record { k = h.k; j = h.j; i = omega (arith, ints, c.low) },
  record { k = h.k; j = h.j; i = c.high },
)
solid_inherits J q plane c h = (
  record { k = h.k; j = omega (arith, ints, c.low); i = h.i },
  record { k = h.k; j = c.high; i = h.i },
)
solid_inherits K q plane c h = (
  record { k = omega (arith, ints, c.low); j = h.j; i = h.i },
  record { k = c.high; j = h.j; i = h.i },
)

-- the planes of both parts
planes_shared : (axis : Axis) (b : Corners) (plane : ℤ) → Cuts axis b plane
    → span axis (before axis b plane) + span axis (from_plane axis b plane) ≡ span axis b
planes_shared I b plane c = omega (arith, ints, c.low, c.high)
planes_shared J b plane c = omega (arith, ints, c.low, c.high)
planes_shared K b plane c = omega (arith, ints, c.low, c.high)

pub planes_before : (axis : Axis) (b : Corners) (count : ℕ) → 0 < count → span axis (before axis b (at axis b.lo +ℤ pos count)) ≡ count
planes_before I b count some = omega (arith, ints, some)
planes_before J b count some = omega (arith, ints, some)
planes_before K b count some = omega (arith, ints, some)

-- a box is so many planes of so many cells
pub cells_across : (axis : Axis) (b : Corners) → cells_of b ≡ span axis b * across axis b
cells_across I b = mul_assoc (span I b) (span J b) (span K b)
cells_across J b =
    ap (λ n. n * span K b) (mul_comm (span I b) (span J b)) ∙ mul_assoc (span J b) (span I b) (span K b)
cells_across K b = mul_comm (span I b * span J b) (span K b)

pub across_before : (axis : Axis) (b : Corners) (plane : ℤ) → across axis (before axis b plane) ≡ across axis b
across_before I b plane = refl
across_before J b plane = refl
across_before K b plane = refl

across_from : (axis : Axis) (b : Corners) (plane : ℤ) → across axis (from_plane axis b plane) ≡ across axis b
across_from I b plane = refl
across_from J b plane = refl
across_from K b plane = refl

product_shared : (x y n a : ℕ) → x + y ≡ n → x * a + y * a ≡ n * a
product_shared x y n a e = sym (add-mul x y a) ∙ ap (λ m. m * a) e

pub cells_shared : SharesOut size_of
cells_shared axis q plane c =
    let low = before axis q.bx plane in
    let high = from_plane axis q.bx plane in
    let a = across axis q.bx in
    let first : cells_of low ≡ span axis low * a = cells_across axis low ∙ ap (λ n. span axis low * n) (across_before axis q.bx plane) in
    let second : cells_of high ≡ span axis high * a = cells_across axis high ∙ ap (λ n. span axis high * n) (across_from axis q.bx plane) in
    let both = product_shared (span axis low) (span axis high) (span axis q.bx) a (planes_shared axis q.bx plane c) in
    omega (arith, first, second, both, cells_across axis q.bx)

-- whether a piece has a cell
abbrev pub has : IVec → Placed → ℕ
has x q = one (holds q.bx x)

pub has_shared : (x : IVec) → SharesOut (has x)
has_shared x axis q plane c =
    split-cover x axis q.bx (before axis q.bx plane) (from_plane axis q.bx plane) plane
    (Holds-before axis q.bx plane x c.high)
    (Holds-from_plane axis q.bx plane x (omega (arith, ints, c.low)))

-- a number of the pieces that pass a test on their origins
pub origin_shared : (test : Placed → Bool) → ((q : Placed) (b : Corners) → test (record q { bx = b }) ≡ test q) → (m : Placed → ℕ) → SharesOut m
    → SharesOut (λ q. cond (test q) (m q) 0)
origin_shared test same m shares axis q plane c =
    rw (same q (before axis q.bx plane), same q (from_plane axis q.bx plane)) (by_test (test q))
  where
    by_test : (t : Bool) → cond t (m (record q { bx = before axis q.bx plane })) 0 + cond t (m (record q { bx = from_plane axis q.bx plane })) 0 ≡ cond t (m q) 0
    by_test true = shares axis q plane c
    by_test false = refl

-- a box that is not empty has a plane, and a cell
pub some_planes : (axis : Axis) (b : Corners) → AtMost b.lo b.hi → 0 < span axis b
some_planes I b h = omega (arith, ints, h.i)
some_planes J b h = omega (arith, ints, h.j)
some_planes K b h = omega (arith, ints, h.k)

pub some_across : (axis : Axis) (b : Corners) → AtMost b.lo b.hi → 0 < across axis b
some_across I b h = mul-pos (some_planes J b h) (some_planes K b h)
some_across J b h = mul-pos (some_planes I b h) (some_planes K b h)
some_across K b h = mul-pos (some_planes I b h) (some_planes J b h)

pub some_cells : (b : Corners) → AtMost b.lo b.hi → 0 < cells_of b
some_cells b h = mul-pos (some_across K b h) (some_planes K b h)

-- a plane across the longest axis has the fewest cells
abbrev IsLeast : ℕ → ℕ → ℕ → Axis → Type 0
IsLeast i j k I = (j * k ≤ i * k) × (j * k ≤ i * j)
IsLeast i j k J = (i * k ≤ j * k) × (i * k ≤ i * j)
IsLeast i j k K = (i * j ≤ j * k) × (i * j ≤ i * k)

least_across : (i j k : ℕ) → IsLeast i j k (cond (nat_le j i && nat_le k i) I (cond (nat_le k j) J K))
least_across i j k =
    cond_both (nat_le j i && nat_le k i) I (cond (nat_le k j) J K) (λ a. IsLeast i j k a)
    (λ yes.
    let both = and_parts (nat_le j i) (nat_le k i) yes in
    let first = mul-le-mul_right k (leb-true j i both.0) in
    let second = mul-le-mul_left j (leb-true k i both.1) in
    (first, omega (arith, second, mul_comm j i)))
    (λ no. cond_both (nat_le k j) J K (λ a. IsLeast i j k a)
    (λ yes.
    let below = leb-true k j yes in
    let less : i ≤ j = not_first (and_cases (nat_le j i) (nat_le k i) no) below in
    (mul-le-mul_right k less, mul-le-mul_left i below))
    (λ other.
    let below = leb-false k j other in
    let less : i ≤ k = last (and_cases (nat_le j i) (nat_le k i) no) below in
    let first = mul-le-mul_left j less in
    (omega (arith, first, mul_comm j i), mul-le-mul_left i (omega (arith, below)))))
  where
    not_first : (nat_le j i ≡ false) ⊎ (nat_le k i ≡ false) → k ≤ j → i ≤ j
    not_first (inl p) below = omega (arith, leb-false j i p)
    not_first (inr p) below = omega (arith, leb-false k i p)

    last : (nat_le j i ≡ false) ⊎ (nat_le k i ≡ false) → j < k → i ≤ k
    last (inl p) below = omega (arith, leb-false j i p)
    last (inr p) below = omega (arith, leb-false k i p)

at_most_across : (b : Corners) (a : Axis) → IsLeast (span I b) (span J b) (span K b) a → (axis : Axis) → across a b ≤ across axis b
at_most_across b I h I = omega arith
at_most_across b I h J = h.0
at_most_across b I h K = h.1
at_most_across b J h I = h.0
at_most_across b J h J = omega arith
at_most_across b J h K = h.1
at_most_across b K h I = h.0
at_most_across b K h J = h.1
at_most_across b K h K = omega arith

across_least : (b : Corners) (axis : Axis) → across (longest_of b) b ≤ across axis b
across_least b axis = at_most_across b (longest_of b) (least_across (span I b) (span J b) (span K b)) axis

-- a part has no more planes on any axis, so a plane of it no more cells
smaller_before : (axis x : Axis) (b : Corners) (plane : ℤ) → Cuts axis b plane → span x (before axis b plane) ≤ span x b
smaller_before I I b plane c = omega (arith, ints, c.low, c.high)
smaller_before J J b plane c = omega (arith, ints, c.low, c.high)
smaller_before K K b plane c = omega (arith, ints, c.low, c.high)
smaller_before I J b plane c = omega arith
smaller_before I K b plane c = omega arith
smaller_before J I b plane c = omega arith
smaller_before J K b plane c = omega arith
smaller_before K I b plane c = omega arith
smaller_before K J b plane c = omega arith

smaller_from : (axis x : Axis) (b : Corners) (plane : ℤ) → Cuts axis b plane → span x (from_plane axis b plane) ≤ span x b
smaller_from I I b plane c = omega (arith, ints, c.low, c.high)
smaller_from J J b plane c = omega (arith, ints, c.low, c.high)
smaller_from K K b plane c = omega (arith, ints, c.low, c.high)
smaller_from I J b plane c = omega arith
smaller_from I K b plane c = omega arith
smaller_from J I b plane c = omega arith
smaller_from J K b plane c = omega arith
smaller_from K I b plane c = omega arith
smaller_from K J b plane c = omega arith

across_smaller : (b part : Corners) → ((x : Axis) → span x part ≤ span x b) → (axis : Axis) → across axis part ≤ across axis b
across_smaller b part less I = mul-le-mul (less J) (less K)
across_smaller b part less J = mul-le-mul (less I) (less K)
across_smaller b part less K = mul-le-mul (less I) (less J)

thin_part : (b part : Corners) (most : ℕ) → ((x : Axis) → span x part ≤ span x b) → across (longest_of b) b ≤ most
    → across (longest_of part) part ≤ most
thin_part b part most less h =
    omega (arith, across_least part (longest_of b), across_smaller b part less (longest_of b), h)

pub thin_inherits : (most : ℕ) → Inherits (IsThin most)
thin_inherits most axis q plane c h =
    let solid = solid_inherits axis q plane c h.not_empty in (
      record { not_empty = solid.0; thin = thin_part q.bx (before axis q.bx plane) most (λ x. smaller_before axis x q.bx plane c) h.thin },
      record { not_empty = solid.1; thin = thin_part q.bx (from_plane axis q.bx plane) most (λ x. smaller_from axis x q.bx plane c) h.thin },
    )

-- The list of the cells of a box has exactly these cells, in ascending order.
use Rattle.std.proofs.Common.{◌≡◌, true, nat_lt, ℕ, zero, suc, ◌+◌, ◌<◌, ◌≤◌, ℤ, pos, ◌+ℤ◌, ◌-ℤ◌, ◌≤ℤ◌, unsigned_abs, refl, subst, inl, inr, arith}
use Rattle.std.specs.List.{range_with_len}
use Rattle.std.specs.List.Sorted.{IsStrictlySortedBy}
use Rattle.std.specs.Ordering.{nat_cmp, int_cmp, MatchOrdering}
use Rattle.std.specs.declared.cmp.Ordering.{Ordering}
use Rattle.std.specs.declared.cmp.Ordering.TheVariants.{Less, Equal, Greater}
use Rattle.std.proofs.lemmas.Int.{ints}
use Rattle.std.proofs.lemmas.Bool.{cases_eq, lt-ltb}
use Rattle.std.proofs.lemmas.Cmp.{tied_itself, int_cmp_total, int_ranked, ranked}
use Rattle.std.specs.Prelude.{◌<ℤ◌}
use Rattle.samr_box.specs.declared.vector.Axis.TheVariants.{I, J, K}
use Rattle.samr_box.specs.declared.vector.IVec.{IVec}
use Rattle.samr_box.specs.Vector.{AtMost}
use Rattle.samr_box.specs.Corners.{Corners, Holds, span}
use Rattle.samr_box.specs.Lists.{Member}
use Rattle.samr_box.specs.Orders.{cell_cmp}
use Rattle.samr_box.proofs.Vectors.{same_cell}
use Rattle.samr_box.proofs.Members.{Member-map, Member-from_map, Member-flat_map, Member-from_flat_map}
use Rattle.samr_box.proofs.Ascending.{sorted-nil, sorted-cons, sorted-map, sorted-flat_map}
use Rattle.samr_find.specs.Cells.{cell_at, row, plane, cells_in}

-- the numbers of a range
Member-range : (n a k : ℕ) → a ≤ k → k < a + n → Member k (range_with_len a n)
Member-range zero a k low high = absurd (omega arith)
Member-range (suc n) a k low high = elim (cases_eq k a) [
  | inl here ↦ inl here
  | inr later ↦ inr (Member-range n (a + 1) k (omega (arith, later)) (omega arith))
]

Member-from_range : (n a k : ℕ) → Member k (range_with_len a n) → (a ≤ k) × (k < a + n)
Member-from_range zero a k m = absurd m
Member-from_range (suc n) a k (inl here) = (omega arith, omega arith)
Member-from_range (suc n) a k (inr later) = let r = Member-from_range n (a + 1) k later in let low = r.0 in let high = r.1 in (omega arith, omega arith)

pub nat_less : (x y : ℕ) → x < y → nat_cmp x y ≡ Less
nat_less x y less = let test : nat_lt x y ≡ true = lt-ltb x y less in rw test refl

less_of : (x y : ℕ) → nat_cmp x y ≡ Less → x < y
less_of x y is = by (nat_cmp x y) (ranked x y (nat_cmp x y) refl) is
  where
    by : (o : Ordering) → MatchOrdering o (x < y) (x ≡ y) (y < x) → o ≡ Less → x < y
    by Less m e = m
    by Equal m e = absurd cc
    by Greater m e = absurd cc

range_sorted : (n a : ℕ) → IsStrictlySortedBy nat_cmp (range_with_len a n)
range_sorted zero a = sorted-nil nat_cmp
range_sorted (suc n) a =
    sorted-cons nat_cmp a (range_with_len (a + 1) n)
    (λ k m. let low = (Member-from_range n (a + 1) k m).0 in nat_less a k (omega arith)) (range_sorted n (a + 1))

int_less : (x y : ℤ) → x <ℤ y → int_cmp x y ≡ Less
int_less x y less = by (int_cmp x y) (int_ranked x y (int_cmp x y) refl)
  where
    by : (o : Ordering) → MatchOrdering o (x <ℤ y) (x ≡ y) (y <ℤ x) → o ≡ Less
    by Less m = refl
    by Equal m = absurd (omega (arith, ints))
    by Greater m = absurd (omega (arith, ints))

int_same : (x : ℤ) → int_cmp x x ≡ Equal
int_same x = tied_itself int_cmp_total x

k_less : (a b : IVec) → a.k <ℤ b.k → cell_cmp a b ≡ Less
k_less a b less = let first : int_cmp a.k b.k ≡ Less = int_less a.k b.k less in rw first refl

j_less : (a b : IVec) → a.k ≡ b.k → a.j <ℤ b.j → cell_cmp a b ≡ Less
j_less a b same less =
    let first : int_cmp a.k b.k ≡ Equal = subst (λ n. int_cmp a.k n ≡ Equal) same (int_same a.k) in
    let second : int_cmp a.j b.j ≡ Less = int_less a.j b.j less in rw (first, second) refl

i_less : (a b : IVec) → a.k ≡ b.k → a.j ≡ b.j → a.i <ℤ b.i → cell_cmp a b ≡ Less
i_less a b same level less =
    let first : int_cmp a.k b.k ≡ Equal = subst (λ n. int_cmp a.k n ≡ Equal) same (int_same a.k) in
    let second : int_cmp a.j b.j ≡ Equal = subst (λ n. int_cmp a.j n ≡ Equal) level (int_same a.j) in rw (first, second) (int_less a.i b.i less)

-- what is in a row, in a plane, and in the list of all cells
in_row : (b : Corners) (y z : ℕ) (c : IVec) → Member c (row b y z) → (x : ℕ) × (x < span I b) × (c ≡ cell_at b x y z)
unfolding row
in_row b y z c m =
    let r = Member-from_map (λ x. cell_at b x y z) c (range_with_len 0 (span I b)) m in
    let within = (Member-from_range (span I b) 0 r.0 r.1).1 in (r.0, omega arith, r.2)

in_plane : (b : Corners) (z : ℕ) (c : IVec) → Member c (plane b z) → (y : ℕ) × (y < span J b) × Member c (row b y z)
unfolding plane
in_plane b z c m =
    let r = Member-from_flat_map (λ y. row b y z) c (range_with_len 0 (span J b)) m in
    let within = (Member-from_range (span J b) 0 r.0 r.1).1 in (r.0, omega arith, r.2)

in_cells : (b : Corners) (c : IVec) → Member c (cells_in b) → (z : ℕ) × (z < span K b) × Member c (plane b z)
unfolding cells_in
in_cells b c m =
    let r = Member-from_flat_map (λ z. plane b z) c (range_with_len 0 (span K b)) m in
    let within = (Member-from_range (span K b) 0 r.0 r.1).1 in (r.0, omega arith, r.2)

-- all its cells ascend
row_sorted : (b : Corners) (y z : ℕ) → IsStrictlySortedBy cell_cmp (row b y z)
unfolding row
row_sorted b y z =
    sorted-map nat_cmp cell_cmp (λ x. cell_at b x y z) (range_with_len 0 (span I b))
    (λ x n less. let below = less_of x n less in i_less (cell_at b x y z) (cell_at b n y z) refl refl (omega (arith, ints)))
    (range_sorted (span I b) 0)

plane_sorted : (b : Corners) (z : ℕ) → IsStrictlySortedBy cell_cmp (plane b z)
unfolding plane
plane_sorted b z =
    sorted-flat_map nat_cmp cell_cmp (λ y. row b y z) (range_with_len 0 (span J b)) (λ y. row_sorted b y z)
    (λ y n c d less first second.
    let below = less_of y n less in
    let p = in_row b y z c first in
    let q = in_row b n z d second in
    rw (p.2, q.2) (j_less (cell_at b p.0 y z) (cell_at b q.0 n z) refl (omega (arith, ints))))
    (range_sorted (span J b) 0)

pub cells_sorted : (b : Corners) → IsStrictlySortedBy cell_cmp (cells_in b)
unfolding cells_in
cells_sorted b =
    sorted-flat_map nat_cmp cell_cmp (λ z. plane b z) (range_with_len 0 (span K b)) (λ z. plane_sorted b z)
    (λ z n c d less first second.
    let below = less_of z n less in
    let p = in_plane b z c first in
    let q = in_plane b n d second in
    let pp = in_row b p.0 z c p.2 in
    let qq = in_row b q.0 n d q.2 in
    rw (pp.2, qq.2) (k_less (cell_at b pp.0 p.0 z) (cell_at b qq.0 q.0 n) (omega (arith, ints))))
    (range_sorted (span K b) 0)

-- the list has a cell exactly where the box has it
ahead_of : (lo hi x : ℤ) → lo ≤ℤ x → x ≤ℤ hi → (unsigned_abs (x -ℤ lo) < unsigned_abs ((hi -ℤ lo) +ℤ pos 1)) × (lo +ℤ pos (unsigned_abs (x -ℤ lo)) ≡ x)
ahead_of lo hi x low high = (omega (arith, ints), omega (arith, ints))

pub Member-cells : (b : Corners) (c : IVec) → Holds b c → Member c (cells_in b)
unfolding cells_in plane row
Member-cells b c h =
    let i = ahead_of b.lo.i b.hi.i c.i h.low.i h.high.i in
    let j = ahead_of b.lo.j b.hi.j c.j h.low.j h.high.j in
    let k = ahead_of b.lo.k b.hi.k c.k h.low.k h.high.k in
    let x = unsigned_abs (c.i -ℤ b.lo.i) in
    let y = unsigned_abs (c.j -ℤ b.lo.j) in
    let z = unsigned_abs (c.k -ℤ b.lo.k) in
    let is : cell_at b x y z ≡ c = same_cell k.1 j.1 i.1 in
    let here : Member (cell_at b x y z) (cells_in b) =
    Member-flat_map (λ z. plane b z) (cell_at b x y z) z (range_with_len 0 (span K b)) (Member-range (span K b) 0 z (omega arith) (let below = k.0 in omega arith))
    (Member-flat_map (λ y. row b y z) (cell_at b x y z) y (range_with_len 0 (span J b)) (Member-range (span J b) 0 y (omega arith) (let below = j.0 in omega arith))
    (Member-map (λ x. cell_at b x y z) x (range_with_len 0 (span I b)) (Member-range (span I b) 0 x (omega arith) (let below = i.0 in omega arith)))) in
    subst (λ v. Member v (cells_in b)) is here

within : (lo hi : ℤ) (n : ℕ) → lo ≤ℤ hi → n < unsigned_abs ((hi -ℤ lo) +ℤ pos 1) → (lo ≤ℤ (lo +ℤ pos n)) × ((lo +ℤ pos n) ≤ℤ hi)
within lo hi n order below = (omega (arith, ints), omega (arith, ints))

pub Holds-cells : (b : Corners) (c : IVec) → AtMost b.lo b.hi → Member c (cells_in b) → Holds b c
Holds-cells b c order m =
    let z = in_cells b c m in
    let y = in_plane b z.0 c z.2 in
    let x = in_row b y.0 z.0 c y.2 in
    let i = within b.lo.i b.hi.i x.0 order.i x.1 in
    let j = within b.lo.j b.hi.j y.0 order.j y.1 in
    let k = within b.lo.k b.hi.k z.0 order.k z.1 in
    rw x.2 (record { low = record { k = k.0; j = j.0; i = i.0 }; high = record { k = k.1; j = j.1; i = i.1 } })

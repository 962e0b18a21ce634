-- The blocks of a box: their places, and their cells.
use Rattle.std.proofs.Common.{◌≡◌, ℕ, zero, suc, ◌+◌, ◌*◌, ◌<◌, ◌≤◌, sym, inl, inr, arith}
use Rattle.std.proofs.lemmas.Int.{ints, clamps}
use Rattle.std.proofs.lemmas.Grind.{div_ceil_times}
use Rattle.std.proofs.Math.Nat.{mul-le-mul_right, eq-or-lt_of_le}
use Rattle.std.proofs.lemmas.Bool.{cases_lt}
use Rattle.std.specs.Prelude.{ℤ, pos, negsuc, ◌+ℤ◌, ◌-ℤ◌, ◌*ℤ◌, ◌≤ℤ◌, unsigned_abs, List, map}
use Rattle.std.specs.Int.{div_ceil}
use Rattle.std.specs.List.{flat_map, range_with_len}
use Rattle.samr_box.specs.declared.vector.Axis.TheVariants.{I, J, K}
use Rattle.samr_box.specs.declared.vector.IVec.{IVec}
use Rattle.samr_box.specs.Vector.{alike, AtMost, plus, minus, times, least}
use Rattle.samr_box.specs.Corners.{Corners, Holds}
use Rattle.samr_box.specs.Ratios.{floor}
use Rattle.samr_box.specs.Lists.{Member}
use Rattle.samr_box.proofs.Floors.{floor-from_mul, mul-from_floor, floor-to_last, last-from_floor}
use Rattle.samr_box.proofs.Members.{Member-map, Member-from_map, Member-flat_map, Member-from_flat_map}
use Rattle.samr_box.proofs.Products.{mul_le}
use Rattle.samr_level.specs.Blocks.{blocks_along, place, block_at}
use Rattle.samr_level.specs.Cuts.{IsPlace}
use Rattle.samr_level.proofs.BlockPlaces.{IsPlace-place}

-- members of a range
pub Member-range : (x a n : ℕ) → a ≤ x → x < a + n → Member x (range_with_len a n)
Member-range x a zero p q = absurd (omega (arith, p, q))
Member-range x a (suc n) p q =
    elim (eq-or-lt_of_le p) [
      | inl e ↦ inl (sym e)
      | inr more ↦ inr (Member-range x (a + 1) n (omega (arith, more)) (omega (arith, q)))
    ]

pub Member-from_range : (x a n : ℕ) → Member x (range_with_len a n) → (a ≤ x) × (x < a + n)
Member-from_range x a zero m = absurd m
Member-from_range x a (suc n) (inl e) = (omega (arith, e), omega (arith, e))
Member-from_range x a (suc n) (inr m) = let r = Member-from_range x (a + 1) n m in (omega (arith, r), omega (arith, r))

-- lists over all places of a box
abbrev pub over_places : {X : Type 0} → IVec → Corners → (ℕ → ℕ → ℕ → X) → List X
over_places block p f =
    flat_map (λ z. flat_map (λ y. map (λ x. f x y z)
    (range_with_len 0 (blocks_along I block p))) (range_with_len 0 (blocks_along J block p))) (range_with_len 0 (blocks_along K block p))

pub record IsAt (block : IVec) (p : Corners) (x y z : ℕ) : Type 0 where
  pub i : x < blocks_along I block p
  pub j : y < blocks_along J block p
  pub k : z < blocks_along K block p

pub Member-over_places : {X : Type 0} (block : IVec) (p : Corners) (f : ℕ → ℕ → ℕ → X) (x y z : ℕ) → IsAt block p x y z → Member (f x y z) (over_places block p f)
Member-over_places block p f x y z h =
    Member-flat_map (λ z. flat_map (λ y. map (λ x. f x y z) (range_with_len 0 (blocks_along I block p))) (range_with_len 0 (blocks_along J block p)))
    (f x y z) z (range_with_len 0 (blocks_along K block p)) (Member-range z 0 (blocks_along K block p) (omega arith) (omega (arith, h.k)))
    (Member-flat_map (λ y. map (λ x. f x y z) (range_with_len 0 (blocks_along I block p)))
    (f x y z) y (range_with_len 0 (blocks_along J block p)) (Member-range y 0 (blocks_along J block p) (omega arith) (omega (arith, h.j)))
    (Member-map (λ x. f x y z) x (range_with_len 0 (blocks_along I block p)) (Member-range x 0 (blocks_along I block p) (omega arith) (omega (arith, h.i)))))

pub Member-from_over_places : {X : Type 0} (block : IVec) (p : Corners) (f : ℕ → ℕ → ℕ → X) (v : X) → Member v (over_places block p f)
    → (x : ℕ) × (y : ℕ) × (z : ℕ) × IsAt block p x y z × (v ≡ f x y z)
Member-from_over_places block p f v m =
    let a = Member-from_flat_map (λ z. flat_map (λ y. map (λ x. f x y z) (range_with_len 0 (blocks_along I block p))) (range_with_len 0 (blocks_along J block p))) v (range_with_len 0 (blocks_along K block p)) m in
    let b = Member-from_flat_map (λ y. map (λ x. f x y a.0) (range_with_len 0 (blocks_along I block p))) v (range_with_len 0 (blocks_along J block p)) a.2 in
    let d = Member-from_map (λ x. f x b.0 a.0) v (range_with_len 0 (blocks_along I block p)) b.2 in
    let k = Member-from_range a.0 0 (blocks_along K block p) a.1 in
    let j = Member-from_range b.0 0 (blocks_along J block p) b.1 in
    let i = Member-from_range d.0 0 (blocks_along I block p) d.1 in
    (d.0, b.0, a.0, record { i = omega (arith, i); j = omega (arith, j); k = omega (arith, k) }, d.2)

-- a block lies in its box
pub place_at : {block : IVec} {p : Corners} {x y z : ℕ} → AtMost (alike (pos 1)) block → AtMost p.lo p.hi → IsAt block p x y z → IsPlace block p (place x y z)
place_at {block} {p} {x} {y} {z} b h q = IsPlace-place block p x y z b h q.i q.j q.k

pub block-within : (block : IVec) (p : Corners) (n v : IVec) → AtMost (alike (pos 1)) block → IsPlace block p n → Holds (block_at block p n) v → Holds p v
unfolding block_at
block-within block p n v b q h =
    let k = mul_le block.k (pos 0) n.k (omega (arith, ints, b.k)) q.low.k in
    let j = mul_le block.j (pos 0) n.j (omega (arith, ints, b.j)) q.low.j in
    let i = mul_le block.i (pos 0) n.i (omega (arith, ints, b.i)) q.low.i in
    let low : AtMost (plus p.lo (times n block)) v = h.low in
    let high : AtMost v (least p.hi (plus (plus p.lo (times n block)) (minus block (alike (pos 1))))) = h.high in
    record {
      low = record { k = omega (arith, ints, low.k, k); j = omega (arith, ints, low.j, j); i = omega (arith, ints, low.i, i) };
      high = record { k = omega (arith, ints, clamps, high.k); j = omega (arith, ints, clamps, high.j); i = omega (arith, ints, clamps, high.i) };
    }

-- a cell of a box lies in the block at the quotient of its distance from the lower corner, and in no other
quotient_below : (lo hi b v : ℤ) (n : ℕ) → pos 1 ≤ℤ b → lo ≤ℤ v → v ≤ℤ hi → pos n ≡ floor (v -ℤ lo) b
    → n < div_ceil (unsigned_abs ((hi -ℤ lo) +ℤ pos 1)) (unsigned_abs b)
quotient_below lo hi (pos m) v n p low high e =
    let wide : 0 < m = omega (arith, ints) in
    let len = unsigned_abs ((hi -ℤ lo) +ℤ pos 1) in
    let count = div_ceil_times len m wide in
    let f = mul-from_floor (v -ℤ lo) (pos m) (pos n) (omega (arith, ints)) (omega (arith, ints, e)) in
    let g : n * m < len = omega (arith, ints, f) in
    elim (cases_lt n (div_ceil len m)) [
      | inl below ↦ below
      | inr above ↦ let up = mul-le-mul_right m above in absurd (omega (arith, g, count.0, up))
    ]
quotient_below lo hi (negsuc m) v n p low high e = absurd (omega (arith, ints))

quotient_of : (lo b v : ℤ) → pos 1 ≤ℤ b → lo ≤ℤ v → (n : ℕ) × (pos n ≡ floor (v -ℤ lo) b)
quotient_of lo b v p low =
    let f = floor-from_mul (v -ℤ lo) b (pos 0) (omega (arith, ints)) (omega (arith, ints)) in
    (unsigned_abs (floor (v -ℤ lo) b), omega (arith, ints, f))

around_low : (lo b v : ℤ) (n : ℕ) → pos 1 ≤ℤ b → pos n ≡ floor (v -ℤ lo) b → (lo +ℤ (pos n *ℤ b)) ≤ℤ v
around_low lo b v n p e =
    let f = mul-from_floor (v -ℤ lo) b (pos n) (omega (arith, ints)) (omega (arith, ints, e)) in
    omega (arith, ints, f)

around_high : (lo b v : ℤ) (n : ℕ) → pos 1 ≤ℤ b → pos n ≡ floor (v -ℤ lo) b → v ≤ℤ ((lo +ℤ (pos n *ℤ b)) +ℤ (b -ℤ pos 1))
around_high lo b v n p e =
    let f = last-from_floor (v -ℤ lo) b (pos n) (omega (arith, ints)) (omega (arith, ints, e)) in
    omega (arith, ints, f)

pub block-around : (block : IVec) (p : Corners) (v : IVec) → AtMost (alike (pos 1)) block → Holds p v
    → (x : ℕ) × (y : ℕ) × (z : ℕ) × IsAt block p x y z × Holds (block_at block p (place x y z)) v
unfolding block_at
block-around block p v b h =
    let i = quotient_of p.lo.i block.i v.i b.i h.low.i in
    let j = quotient_of p.lo.j block.j v.j b.j h.low.j in
    let k = quotient_of p.lo.k block.k v.k b.k h.low.k in
    let li = around_low p.lo.i block.i v.i i.0 b.i i.1 in
    let lj = around_low p.lo.j block.j v.j j.0 b.j j.1 in
    let lk = around_low p.lo.k block.k v.k k.0 b.k k.1 in
    let hi = around_high p.lo.i block.i v.i i.0 b.i i.1 in
    let hj = around_high p.lo.j block.j v.j j.0 b.j j.1 in
    let hk = around_high p.lo.k block.k v.k k.0 b.k k.1 in (
      i.0,
      j.0,
      k.0,
      record {
        i = quotient_below p.lo.i p.hi.i block.i v.i i.0 b.i h.low.i h.high.i i.1;
        j = quotient_below p.lo.j p.hi.j block.j v.j j.0 b.j h.low.j h.high.j j.1;
        k = quotient_below p.lo.k p.hi.k block.k v.k k.0 b.k h.low.k h.high.k k.1;
      },
      record {
        low = record { k = lk; j = lj; i = li };
        high = record {
          k = omega (arith, ints, clamps, h.high.k, hk);
          j = omega (arith, ints, clamps, h.high.j, hj);
          i = omega (arith, ints, clamps, h.high.i, hi);
        };
      },
    )

one_quotient : (lo b v : ℤ) (n : ℕ) → pos 1 ≤ℤ b → (lo +ℤ (pos n *ℤ b)) ≤ℤ v → v ≤ℤ ((lo +ℤ (pos n *ℤ b)) +ℤ (b -ℤ pos 1)) → pos n ≡ floor (v -ℤ lo) b
one_quotient lo b v n p low high =
    let f = floor-from_mul (v -ℤ lo) b (pos n) (omega (arith, ints)) (omega (arith, ints, low)) in
    let g = floor-to_last (v -ℤ lo) b (pos n) (omega (arith, ints)) (omega (arith, ints, high)) in
    omega (arith, ints, f, g)

pub one_place : (block : IVec) (p : Corners) (v : IVec) (x y z x' y' z' : ℕ) → AtMost (alike (pos 1)) block
    → Holds (block_at block p (place x y z)) v → Holds (block_at block p (place x' y' z')) v → (x ≡ x') × (y ≡ y') × (z ≡ z')
unfolding block_at
one_place block p v x y z x' y' z' b h g =
    let low : AtMost (plus p.lo (times (place x y z) block)) v = h.low in
    let high : AtMost v (least p.hi (plus (plus p.lo (times (place x y z) block)) (minus block (alike (pos 1))))) = h.high in
    let low' : AtMost (plus p.lo (times (place x' y' z') block)) v = g.low in
    let high' : AtMost v (least p.hi (plus (plus p.lo (times (place x' y' z') block)) (minus block (alike (pos 1))))) = g.high in
    let i = one_quotient p.lo.i block.i v.i x b.i (omega (arith, ints, low.i)) (omega (arith, ints, clamps, high.i)) in
    let j = one_quotient p.lo.j block.j v.j y b.j (omega (arith, ints, low.j)) (omega (arith, ints, clamps, high.j)) in
    let k = one_quotient p.lo.k block.k v.k z b.k (omega (arith, ints, low.k)) (omega (arith, ints, clamps, high.k)) in
    let i' = one_quotient p.lo.i block.i v.i x' b.i (omega (arith, ints, low'.i)) (omega (arith, ints, clamps, high'.i)) in
    let j' = one_quotient p.lo.j block.j v.j y' b.j (omega (arith, ints, low'.j)) (omega (arith, ints, clamps, high'.j)) in
    let k' = one_quotient p.lo.k block.k v.k z' b.k (omega (arith, ints, low'.k)) (omega (arith, ints, clamps, high'.k)) in
    (omega (arith, ints, i, i'), omega (arith, ints, j, j'), omega (arith, ints, k, k'))

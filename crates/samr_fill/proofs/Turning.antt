-- Cells seen from one end of an edge and from the other.
use Rattle.std.proofs.Common.{◌≡◌, sym, ap, ◌∙◌, subst, arith}
use Rattle.std.proofs.lemmas.Int.{ints, clamps}
use Rattle.std.proofs.lemmas.Bool.{and_from}
use Rattle.std.specs.Prelude.{ℤ, pos, neg_ℤ, ◌+ℤ◌, ◌-ℤ◌, ◌*ℤ◌, true}
use Rattle.samr_box.specs.declared.vector.IVec.{IVec}
use Rattle.samr_box.specs.Vector.{alike, AtMost, Within, plus, minus, times, least, greatest, at_most}
use Rattle.samr_box.specs.Corners.{Corners, Holds, holds_box, common, grown}
use Rattle.samr_box.specs.Space.{Space, image, opposite}
use Rattle.samr_box.proofs.Vectors.{same_cell}
use Rattle.samr_box.proofs.Products.{mul-neg}
use Rattle.samr_box.proofs.CellSets.{at_most-from}
use Rattle.samr_data.specs.Places.{moved_back}

back_on : (x t n : ℤ) → x +ℤ (t *ℤ n) ≡ x -ℤ ((neg_ℤ t) *ℤ n)
back_on x t n = let e = mul-neg t n in omega (arith, ints, e)

on_on : (x t n : ℤ) → x +ℤ ((neg_ℤ t) *ℤ n) ≡ x -ℤ (t *ℤ n)
on_on x t n = let e = mul-neg t n in omega (arith, ints, e)

there_on : (x t n : ℤ) → (x +ℤ ((neg_ℤ t) *ℤ n)) +ℤ (t *ℤ n) ≡ x
there_on x t n = let e = mul-neg t n in omega (arith, ints, e)

pub step_back : (x t n : IVec) → plus x (times t n) ≡ minus x (times (opposite t) n)
step_back x t n = same_cell (back_on x.k t.k n.k) (back_on x.j t.j n.j) (back_on x.i t.i n.i)

pub opposite_step : (x t n : IVec) → plus x (times (opposite t) n) ≡ minus x (times t n)
opposite_step x t n = same_cell (on_on x.k t.k n.k) (on_on x.j t.j n.j) (on_on x.i t.i n.i)

pub there_and_back : (x t n : IVec) → plus (plus x (times (opposite t) n)) (times t n) ≡ x
there_and_back x t n = same_cell (there_on x.k t.k n.k) (there_on x.j t.j n.j) (there_on x.i t.i n.i)

pub minus_plus : (x m : IVec) → minus (plus x m) m ≡ x
minus_plus x m = same_cell (omega (arith, ints)) (omega (arith, ints)) (omega (arith, ints))

-- the copied part of a base lies about the head
pub target_inside : (d : Space) (base head : Corners) (t g : IVec)
    → holds_box (grown head g) (moved_back (common base (grown (image d head t) g)) (times t d.size)) ≡ true
target_inside d base head t g =
    let m = times t d.size in
    let c = common base (grown (image d head t) g) in
    and_from (at_most (minus head.lo g) (minus c.lo m)) (at_most (minus c.hi m) (plus head.hi g))
    (at_most-from {a = minus head.lo g} {b = minus c.lo m} (record { k = omega (arith, ints, clamps); j = omega (arith, ints, clamps); i = omega (arith, ints, clamps) }))
    (at_most-from {a = minus c.hi m} {b = plus head.hi g} (record { k = omega (arith, ints, clamps); j = omega (arith, ints, clamps); i = omega (arith, ints, clamps) }))

-- a neighbour of a cell of a box, both moved
pub near_moved : (h : Corners) (x y m g w : IVec) → Holds h (minus x m) → Within g y x → AtMost g w → Holds (grown h w) (minus y m)
near_moved h x y m g w p q r = record {
  low = record {
    k = omega (arith, ints, p.low.k, q.high.k, r.k);
    j = omega (arith, ints, p.low.j, q.high.j, r.j);
    i = omega (arith, ints, p.low.i, q.high.i, r.i);
  };
  high = record {
    k = omega (arith, ints, p.high.k, q.low.k, r.k);
    j = omega (arith, ints, p.high.j, q.low.j, r.j);
    i = omega (arith, ints, p.high.i, q.low.i, r.i);
  };
}

pub image_moved : (d : Space) (b : Corners) (t y : IVec) → Holds b y → Holds (image d b (opposite t)) (minus y (times t d.size))
image_moved d b t y h =
    let k = mul-neg t.k d.size.k in
    let j = mul-neg t.j d.size.j in
    let i = mul-neg t.i d.size.i in
    record {
      low = record { k = omega (arith, ints, h.low.k, k); j = omega (arith, ints, h.low.j, j); i = omega (arith, ints, h.low.i, i) };
      high = record { k = omega (arith, ints, h.high.k, k); j = omega (arith, ints, h.high.j, j); i = omega (arith, ints, h.high.i, i) };
    }

pub grown_moved : (d : Space) (b : Corners) (t g x : IVec) → Holds (grown b g) x → Holds (grown (image d b (opposite t)) g) (minus x (times t d.size))
grown_moved d b t g x h =
    let k = mul-neg t.k d.size.k in
    let j = mul-neg t.j d.size.j in
    let i = mul-neg t.i d.size.i in
    record {
      low = record { k = omega (arith, ints, h.low.k, k); j = omega (arith, ints, h.low.j, j); i = omega (arith, ints, h.low.i, i) };
      high = record { k = omega (arith, ints, h.high.k, k); j = omega (arith, ints, h.high.j, j); i = omega (arith, ints, h.high.i, i) };
    }

pub minus_nothing : (x : IVec) → minus x (alike (pos 0)) ≡ x
minus_nothing x = same_cell (omega (arith, ints)) (omega (arith, ints)) (omega (arith, ints))

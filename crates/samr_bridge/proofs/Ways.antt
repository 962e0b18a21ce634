-- Every true overlap of east and west has a way by a centre box, and every pair of ways whose heads overlap is one.
use Rattle.std.proofs.Common.{◌≡◌, sym, subst, arith}
use Rattle.std.proofs.lemmas.Int.{ints}
use Rattle.std.specs.Prelude.{ℤ, pos, ◌+ℤ◌, ◌-ℤ◌, ◌*ℤ◌, ◌≤ℤ◌, true}
use Rattle.std.specs.Int.{int_max, int_min}
use Rattle.samr_box.specs.declared.vector.Axis.{Axis}
use Rattle.samr_box.specs.declared.vector.Axis.TheVariants.{I, J, K}
use Rattle.samr_box.specs.declared.vector.IVec.{IVec}
use Rattle.samr_box.specs.Vector.{at, alike, AtMost}
use Rattle.samr_box.specs.Corners.{Corners, Holds, Meet, grown}
use Rattle.samr_box.specs.Ratios.{floor, coarse, refined}
use Rattle.samr_box.specs.Space.{image}
use Rattle.samr_box.proofs.CellSets.{Meet-test, meets-from}
use Rattle.samr_level.specs.Refs.{Owned, Link}
use Rattle.samr_level.specs.Overlaps.{Scale, scale, near, IsTrueOverlap}
use Rattle.samr_level.proofs.Overlapping.{zero_shift}
use Rattle.samr_bridge.specs.Bridge.{Bridging, Divides, AreRefinements, IsBridge}
use Rattle.samr_bridge.specs.Found.{bridge_scale, IsWay}
use Rattle.samr_bridge.proofs.OneAxis.{Near, near_cell, near_cell-is, east_cell, centre_east, centre_west}
use Rattle.samr_bridge.proofs.Factors.{Compared, compared, tied_ratios, not_negative}

-- the test of a scale is that of its axes
abbrev pub AreNear : Axis → Scale → Corners → Corners → IVec → Type 0
AreNear axis n a b s =
    Near (at axis n.base) (at axis n.head) (at axis n.reach) (at axis n.domain.size) (at axis a.lo) (at axis a.hi) (at axis b.lo) (at axis b.hi) (at axis s)

pub near-axes : (n : Scale) (a b : Corners) (s : IVec) → near n a b s ≡ true → (axis : Axis) → AreNear axis n a b s
near-axes n a b s t axis = by axis (Meet-test {a = grown (refined a n.base) n.reach} {b = image n.domain (refined b n.head) s} t)
  where
    by : (axis : Axis) → Meet (grown (refined a n.base) n.reach) (image n.domain (refined b n.head) s) → AreNear axis n a b s
    by I h = record { below = h.low.i; above = h.high.i }
    by J h = record { below = h.low.j; above = h.high.j }
    by K h = record { below = h.low.k; above = h.high.k }

pub axes-near : (n : Scale) (a b : Corners) (s : IVec) → ((axis : Axis) → AreNear axis n a b s) → near n a b s ≡ true
axes-near n a b s h =
    meets-from {a = grown (refined a n.base) n.reach} {b = image n.domain (refined b n.head) s}
    (record {
      low = record { k = (h K).below; j = (h J).below; i = (h I).below };
      high = record { k = (h K).above; j = (h J).above; i = (h I).above };
    })

-- one axis of a bridge: the east cell over a near cell, and what a centre box that has it, coarsened, overlaps
pub record HasWay (n given cw east centre west elo ehi blo bhi s y : ℤ) : Type 0 where
  pub low : elo ≤ℤ y
  pub high : y ≤ℤ ehi
  pub to_east : (clo chi : ℤ) → clo ≤ℤ floor y (floor east centre) → floor y (floor east centre) ≤ℤ chi
      → (let f = int_max centre east in Near (floor f centre) (floor f east) ((cw *ℤ floor f centre) *ℤ floor f east) (n *ℤ f) clo chi elo ehi (pos 0))
  pub to_west : (clo chi : ℤ) → clo ≤ℤ floor y (floor east centre) → floor y (floor east centre) ≤ℤ chi
      → (let g = int_max centre west in Near (floor g centre) (floor g west) ((given *ℤ floor g centre) *ℤ floor g west) (n *ℤ g) clo chi blo bhi s)

abbrev pub fine_cell : ℤ → ℤ → ℤ → ℤ → ℤ → ℤ → ℤ → ℤ
fine_cell n w east west elo blo s =
    let f = int_max east west in near_cell (floor f east) (floor f west) ((w *ℤ floor f east) *ℤ floor f west) (n *ℤ f) elo blo s

pub has_way : (n w given cw east centre west elo ehi blo bhi s : ℤ) → pos 1 ≤ℤ east → pos 1 ≤ℤ centre → pos 1 ≤ℤ west → pos 0 ≤ℤ w → pos 0 ≤ℤ cw
    → AreRefinements east centre west
    → floor (w +ℤ (floor (int_min east west) (int_min centre west) -ℤ pos 1)) (floor (int_min east west) (int_min centre west)) ≤ℤ given
    → elo ≤ℤ ehi → blo ≤ℤ bhi
    → (let f = int_max east west in Near (floor f east) (floor f west) ((w *ℤ floor f east) *ℤ floor f west) (n *ℤ f) elo ehi blo bhi s)
    → HasWay n given cw east centre west elo ehi blo bhi s (floor (fine_cell n w east west elo blo s) (floor (int_max east west) east))
has_way n w given cw east centre west elo ehi blo bhi s pe pc pw p wide order enough fe fb h =
    let f = int_max east west in
    let u = floor f east in
    let v = floor f west in
    let t = tied_ratios n w given east centre west pc pe pw p order enough in
    let x = fine_cell n w east west elo blo s in
    let is = near_cell-is u v ((w *ℤ u) *ℤ v) (n *ℤ f) elo ehi blo bhi s t.1.some_base t.1.some_head t.1.from_zero fe fb h in
    let cell = east_cell u v ((w *ℤ u) *ℤ v) (n *ℤ f) elo ehi blo bhi s x t.1.some_base is in
    let g = int_max centre west in
    let e = compared centre east pc order.fine in
    record {
      low = cell.0;
      high = cell.1;
      to_east = λ clo chi from to.
          to_east_on n cw centre east elo ehi clo chi (floor x u) order.fine e wide cell.0 cell.1 from to t.1.some_east;
      to_west = λ clo chi from to.
          centre_west u v ((w *ℤ u) *ℤ v) (n *ℤ f) (floor g centre) (floor g west) ((given *ℤ floor g centre) *ℤ floor g west) (n *ℤ g) (floor east centre) t.0
          elo ehi clo chi blo bhi s x t.1 is from to;
    }
  where
    to_east_on : (n cw centre east elo ehi clo chi y : ℤ) (d : Divides centre east) → Compared centre east d.times → pos 0 ≤ℤ cw → elo ≤ℤ y → y ≤ℤ ehi
        → clo ≤ℤ floor y (floor east centre) → floor y (floor east centre) ≤ℤ chi → pos 1 ≤ℤ floor east centre
        → (let f = int_max centre east in Near (floor f centre) (floor f east) ((cw *ℤ floor f centre) *ℤ floor f east) (n *ℤ f) clo chi elo ehi (pos 0))
    to_east_on n cw centre east elo ehi clo chi y d e wide low high from to some =
        let Family : ℤ → ℤ → ℤ → Type 0 = λ f p one. Near p one ((cw *ℤ p) *ℤ one) (n *ℤ f) clo chi elo ehi (pos 0) in
        let p = floor east centre in
        let r = not_negative (cw *ℤ p) (pos 1) (not_negative cw p wide some) (omega (arith, ints)) in
        let here : Family east p (pos 1) = centre_east p ((cw *ℤ p) *ℤ pos 1) (n *ℤ east) elo ehi clo chi y some r low high from to in
        subst (λ (f : ℤ). Family f (floor f centre) (floor f east)) (sym e.max) (subst (λ (one : ℤ). Family east p one) (sym e.alone) here)

-- three axes
abbrev pub fine_cells : Bridging → Link → IVec
fine_cells w e = record {
  k = fine_cell w.frame.size.k w.width.k w.east_ratio.k w.west_ratio.k e.base.bx.lo.k e.head.bx.lo.k e.shift.k;
  j = fine_cell w.frame.size.j w.width.j w.east_ratio.j w.west_ratio.j e.base.bx.lo.j e.head.bx.lo.j e.shift.j;
  i = fine_cell w.frame.size.i w.width.i w.east_ratio.i w.west_ratio.i e.base.bx.lo.i e.head.bx.lo.i e.shift.i;
}

abbrev pub WayOn : Bridging → Link → IVec → Axis → Type 0
WayOn w e y axis =
    HasWay (at axis w.frame.size) (at axis w.west_width) (at axis w.east_width) (at axis w.east_ratio) (at axis w.centre_ratio) (at axis w.west_ratio)
    (at axis e.base.bx.lo) (at axis e.base.bx.hi) (at axis e.head.bx.lo) (at axis e.head.bx.hi) (at axis e.shift) (at axis y)

module _ (w : Bridging) (b : IsBridge w) where
  way_on : (axis : Axis) (e : Link) → AtMost e.base.bx.lo e.base.bx.hi → AtMost e.head.bx.lo e.head.bx.hi → AreNear axis (bridge_scale w) e.base.bx e.head.bx e.shift
      → WayOn w e (coarse (fine_cells w e) (bridge_scale w).base) axis
  way_on I e fe fb h =
      has_way w.frame.size.i w.width.i w.west_width.i w.east_width.i w.east_ratio.i w.centre_ratio.i w.west_ratio.i e.base.bx.lo.i e.base.bx.hi.i e.head.bx.lo.i e.head.bx.hi.i e.shift.i
      b.east_ratio.low.i b.centre_ratio.low.i b.west_ratio.low.i b.width.i b.east_width.i (b.refinements I) b.west_width.i fe.i fb.i h
  way_on J e fe fb h =
      has_way w.frame.size.j w.width.j w.west_width.j w.east_width.j w.east_ratio.j w.centre_ratio.j w.west_ratio.j e.base.bx.lo.j e.base.bx.hi.j e.head.bx.lo.j e.head.bx.hi.j e.shift.j
      b.east_ratio.low.j b.centre_ratio.low.j b.west_ratio.low.j b.width.j b.east_width.j (b.refinements J) b.west_width.j fe.j fb.j h
  way_on K e fe fb h =
      has_way w.frame.size.k w.width.k w.west_width.k w.east_width.k w.east_ratio.k w.centre_ratio.k w.west_ratio.k e.base.bx.lo.k e.base.bx.hi.k e.head.bx.lo.k e.head.bx.hi.k e.shift.k
      b.east_ratio.low.k b.centre_ratio.low.k b.west_ratio.low.k b.width.k b.east_width.k (b.refinements K) b.west_width.k fe.k fb.k h

  -- every true overlap of east and west has a way
  pub way : (e : Link) → IsTrueOverlap (bridge_scale w) w.east w.west e → (c : Owned) × IsWay w e c
  way e h =
      let fe = b.east.not_empty e.base h.is_base in
      let fb = b.west.not_empty e.head h.is_head in
      let y = coarse (fine_cells w e) (bridge_scale w).base in
      let on : (axis : Axis) → WayOn w e y axis =
      λ axis. way_on axis e fe fb (near-axes (bridge_scale w) e.base.bx e.head.bx e.shift h.is_near axis) in
      let inside : Holds e.base.bx y = record {
        low = record { k = (on K).low; j = (on J).low; i = (on I).low };
        high = record { k = (on K).high; j = (on J).high; i = (on I).high };
      } in
      let over = b.covered y (e.base, h.is_base, inside) in
      let c = over.0 in
      let holds = over.2 in
      let east = scale w.frame w.east_width w.centre_ratio w.east_ratio in
      let west = scale w.frame w.west_width w.centre_ratio w.west_ratio in (
        c,
        record {
          to_east = record {
            is_base = over.1;
            is_head = h.is_base;
            is_shift = zero_shift w.frame.periodic;
            is_near = axes-near east c.bx e.base.bx (alike (pos 0)) (east_on c e y on holds);
          };
          to_west = record {
            is_base = over.1;
            is_head = h.is_head;
            is_shift = h.is_shift;
            is_near = axes-near west c.bx e.head.bx e.shift (west_on c e y on holds);
          };
        },
      )
    where
      east_on : (c : Owned) (e : Link) (y : IVec) → ((axis : Axis) → WayOn w e y axis)
          → Holds c.bx (coarse y (coarse w.east_ratio w.centre_ratio)) → (axis : Axis) → AreNear axis (scale w.frame w.east_width w.centre_ratio w.east_ratio) c.bx e.base.bx (alike (pos 0))
      east_on c e y on h I = (on I).to_east c.bx.lo.i c.bx.hi.i h.low.i h.high.i
      east_on c e y on h J = (on J).to_east c.bx.lo.j c.bx.hi.j h.low.j h.high.j
      east_on c e y on h K = (on K).to_east c.bx.lo.k c.bx.hi.k h.low.k h.high.k

      west_on : (c : Owned) (e : Link) (y : IVec) → ((axis : Axis) → WayOn w e y axis)
          → Holds c.bx (coarse y (coarse w.east_ratio w.centre_ratio)) → (axis : Axis) → AreNear axis (scale w.frame w.west_width w.centre_ratio w.west_ratio) c.bx e.head.bx e.shift
      west_on c e y on h I = (on I).to_west c.bx.lo.i c.bx.hi.i h.low.i h.high.i
      west_on c e y on h J = (on J).to_west c.bx.lo.j c.bx.hi.j h.low.j h.high.j
      west_on c e y on h K = (on K).to_west c.bx.lo.k c.bx.hi.k h.low.k h.high.k

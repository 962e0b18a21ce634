-- The bridge on one axis: boxes as their first and last cells, compared in a finer index space.
use Rattle.std.proofs.Common.{◌≡◌, sym, ap, ◌∙◌, arith}
use Rattle.std.proofs.lemmas.Int.{ints, clamps}
use Rattle.std.specs.Prelude.{ℤ, pos, ◌+ℤ◌, ◌-ℤ◌, ◌*ℤ◌, ◌≤ℤ◌, ◌<ℤ◌}
use Rattle.std.specs.Int.{int_max}
use Rattle.samr_box.specs.Ratios.{floor}
use Rattle.samr_box.proofs.Products.{mul-plus, mul-minus, mul_assoc, mul_le, mul_lt_back}
use Rattle.samr_box.proofs.Floors.{floor-from_mul, mul-from_floor, floor-to_last, last-from_floor}

-- the test for an overlap
pub record Near (base head reach size alo ahi blo bhi s : ℤ) : Type 0 where
  pub below : ((alo *ℤ base) -ℤ reach) ≤ℤ (((bhi *ℤ head) +ℤ (head -ℤ pos 1)) +ℤ (s *ℤ size))
  pub above : ((blo *ℤ head) +ℤ (s *ℤ size)) ≤ℤ (((ahi *ℤ base) +ℤ (base -ℤ pos 1)) +ℤ reach)

-- two index spaces: in the finer one of east and west an east cell has u cells and a west cell v; in the finer one of
-- centre and west a centre cell has cb cells and a west cell ch; a centre cell has p east cells, and the second space is m times coarser
pub record Tied (u v reach size cb ch given coarser p m : ℤ) : Type 0 where
  pub some_base : pos 1 ≤ℤ u
  pub some_head : pos 1 ≤ℤ v
  pub some_east : pos 1 ≤ℤ p
  pub some_fine : pos 1 ≤ℤ m
  pub from_zero : pos 0 ≤ℤ reach
  pub base : p *ℤ u ≡ cb *ℤ m
  pub head : v ≡ ch *ℤ m
  pub step : size ≡ coarser *ℤ m
  pub wide : reach ≤ℤ (given *ℤ m)

-- a fine cell of the east box within reach of the west box's image
pub record IsNearCell (u v reach size elo ehi blo bhi s x : ℤ) : Type 0 where
  pub low : (elo *ℤ u) ≤ℤ x
  pub high : x ≤ℤ ((ehi *ℤ u) +ℤ (u -ℤ pos 1))
  pub below : x ≤ℤ ((((bhi *ℤ v) +ℤ (v -ℤ pos 1)) +ℤ (s *ℤ size)) +ℤ reach)
  pub above : (((blo *ℤ v) +ℤ (s *ℤ size)) -ℤ reach) ≤ℤ x

abbrev pub near_cell : ℤ → ℤ → ℤ → ℤ → ℤ → ℤ → ℤ → ℤ
near_cell u v reach size elo blo s = int_max (elo *ℤ u) (((blo *ℤ v) +ℤ (s *ℤ size)) -ℤ reach)

pub near_cell-is : (u v reach size elo ehi blo bhi s : ℤ) → pos 1 ≤ℤ u → pos 1 ≤ℤ v → pos 0 ≤ℤ reach → elo ≤ℤ ehi → blo ≤ℤ bhi
    → Near u v reach size elo ehi blo bhi s → IsNearCell u v reach size elo ehi blo bhi s (near_cell u v reach size elo blo s)
near_cell-is u v reach size elo ehi blo bhi s pu pv wide fe fb h =
    let e = mul_le u elo ehi (omega (arith, ints)) fe in
    let b = mul_le v blo bhi (omega (arith, ints)) fb in
    record {
      low = omega (arith, ints, clamps);
      high = omega (arith, ints, clamps, e, h.above);
      below = omega (arith, ints, clamps, b, h.below);
      above = omega (arith, ints, clamps);
    }

-- the east cell in which it lies
pub east_cell : (u v reach size elo ehi blo bhi s x : ℤ) → pos 1 ≤ℤ u → IsNearCell u v reach size elo ehi blo bhi s x
    → (elo ≤ℤ floor x u) × (floor x u ≤ℤ ehi)
east_cell u v reach size elo ehi blo bhi s x pu h =
    (floor-from_mul x u elo (omega (arith, ints)) h.low, floor-to_last x u ehi (omega (arith, ints)) h.high)

-- a centre box that has an east cell, coarsened, overlaps each east box that has the cell
pub centre_east : (p reach size elo ehi clo chi y : ℤ) → pos 1 ≤ℤ p → pos 0 ≤ℤ reach → elo ≤ℤ y → y ≤ℤ ehi
    → clo ≤ℤ floor y p → floor y p ≤ℤ chi → Near p (pos 1) reach size clo chi elo ehi (pos 0)
centre_east p reach size elo ehi clo chi y pp wide low high from to =
    let a = mul-from_floor y p clo (omega (arith, ints)) from in
    let b = last-from_floor y p chi (omega (arith, ints)) to in
    record { below = omega (arith, ints, a, b); above = omega (arith, ints, a, b) }

regrouped : (a b m c : ℤ) → c ≡ b *ℤ m → (a *ℤ b) *ℤ m ≡ a *ℤ c
regrouped a b m c e = mul_assoc a b m ∙ ap (λ (v : ℤ). a *ℤ v) (sym e)

-- and it overlaps the west box at the same shift
pub centre_west : (u v reach size cb ch given coarser p m elo ehi clo chi blo bhi s x : ℤ) → Tied u v reach size cb ch given coarser p m
    → IsNearCell u v reach size elo ehi blo bhi s x → clo ≤ℤ floor (floor x u) p → floor (floor x u) p ≤ℤ chi
    → Near cb ch given coarser clo chi blo bhi s
centre_west u v reach size cb ch given coarser p m elo ehi clo chi blo bhi s x t h from to =
    let y = floor x u in
    let pu : pos 0 <ℤ u = omega (arith, ints, t.some_base) in
    let pp : pos 0 <ℤ p = omega (arith, ints, t.some_east) in
    let pm : pos 0 ≤ℤ m = omega (arith, ints, t.some_fine) in
    let x_low = mul-from_floor x u y pu (omega (arith, ints)) in
    let x_high = last-from_floor x u y pu (omega (arith, ints)) in
    let y_low = mul_le u (clo *ℤ p) y (omega (arith, ints, t.some_base)) (mul-from_floor y p clo pp from) in
    let y_high = mul_le u y ((chi *ℤ p) +ℤ (p -ℤ pos 1)) (omega (arith, ints, t.some_base)) (last-from_floor y p chi pp to) in
    let y_split = mul-plus (chi *ℤ p) (p -ℤ pos 1) u in
    let p_split = mul-minus p (pos 1) u in
    let clo_is : (clo *ℤ cb) *ℤ m ≡ (clo *ℤ p) *ℤ u = regrouped clo cb m (p *ℤ u) t.base ∙ sym (mul_assoc clo p u) in
    let chi_is : (chi *ℤ cb) *ℤ m ≡ (chi *ℤ p) *ℤ u = regrouped chi cb m (p *ℤ u) t.base ∙ sym (mul_assoc chi p u) in
    let blo_is = regrouped blo ch m v t.head in
    let bhi_is = regrouped bhi ch m v t.head in
    let step_is = regrouped s coarser m size t.step in
    let a = mul-minus (clo *ℤ cb) given m in
    let b = mul-plus ((bhi *ℤ ch) +ℤ ch) (s *ℤ coarser) m in
    let b2 = mul-plus (bhi *ℤ ch) ch m in
    let d = mul-plus (blo *ℤ ch) (s *ℤ coarser) m in
    let e = mul-plus ((chi *ℤ cb) +ℤ cb) given m in
    let e2 = mul-plus (chi *ℤ cb) cb m in
    let less : (((clo *ℤ cb) -ℤ given) *ℤ m) <ℤ ((((bhi *ℤ ch) +ℤ ch) +ℤ (s *ℤ coarser)) *ℤ m) =
    omega (arith, ints, x_low, y_low, clo_is, bhi_is, step_is, a, b, b2, h.below, t.head, t.wide) in
    let more : (((blo *ℤ ch) +ℤ (s *ℤ coarser)) *ℤ m) <ℤ ((((chi *ℤ cb) +ℤ cb) +ℤ given) *ℤ m) =
    omega (arith, ints, x_high, y_high, y_split, p_split, chi_is, blo_is, step_is, d, e, e2, h.above, t.base, t.wide) in
    let below = mul_lt_back m ((clo *ℤ cb) -ℤ given) (((bhi *ℤ ch) +ℤ ch) +ℤ (s *ℤ coarser)) pm less in
    let above = mul_lt_back m ((blo *ℤ ch) +ℤ (s *ℤ coarser)) (((chi *ℤ cb) +ℤ cb) +ℤ given) pm more in
    record { below = omega (arith, ints, below); above = omega (arith, ints, above) }

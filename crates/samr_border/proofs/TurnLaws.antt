-- Turns of cells near the frame, on one axis and on all.
use Rattle.std.proofs.Common.{◌≡◌, refl, sym, ◌∙◌, ap, w8, to_z, of_z, arith}
use Rattle.std.proofs.lemmas.Int.{ints, by_lt_z, to_z-of_z}
use Rattle.std.proofs.lemmas.Bool.{true≢false}
use Rattle.std.specs.Prelude.{ℤ, pos, negsuc, neg_ℤ, ◌+ℤ◌, ◌-ℤ◌, ◌*ℤ◌, ◌≤ℤ◌, ◌<ℤ◌, int_lt, Bool, true, false, cond, FitsSigned}
use Rattle.std.specs.Int.{int_rem_euclid}
use Rattle.samr_box.specs.declared.vector.Axis.TheVariants.{I, J, K}
use Rattle.samr_box.specs.declared.vector.IVec.{IVec}
use Rattle.samr_box.specs.Vector.{at, AtMost, Within, minus, times, IsRatio, IsShift}
use Rattle.samr_box.specs.Corners.{Holds}
use Rattle.samr_box.specs.Ratios.{floor, coarse}
use Rattle.samr_box.specs.Space.{Space, IsSpace, whole, finer, wrapped, wrapped_on}
use Rattle.samr_box.proofs.Vectors.{same_cell}
use Rattle.samr_box.proofs.Products.{mul_le, mul_zero, shifted_bounds}
use Rattle.samr_box.proofs.Floors.{floor-from_mul, mul-from_floor}
use Rattle.samr_border.specs.Turns.{turn_on, turns, IsNearOn, IsNearFrame, IsStepOn, IsShiftOf}
use Rattle.samr_box.proofs.Wraps.{IsRemainder-rem}
use Rattle.samr_border.proofs.Remainders.{not_more, rem-is, floor-rem}

-- a cell less its turns lies in the frame on a periodic axis
turned_low : (n x : ℤ) → pos 1 ≤ℤ n → neg_ℤ n ≤ℤ x → x <ℤ (n +ℤ n) → pos 0 ≤ℤ (x -ℤ (turn_on true n x *ℤ n))
turned_low n x p low high = grind (arith, ints)

turned_high : (n x : ℤ) → pos 1 ≤ℤ n → neg_ℤ n ≤ℤ x → x <ℤ (n +ℤ n) → (x -ℤ (turn_on true n x *ℤ n)) <ℤ n
turned_high n x p low high = grind (arith, ints)

-- on one axis a cell less its turns is the cell to which it wraps
pub turned_on : (periodic : Bool) (n x : ℤ) → pos 1 ≤ℤ n → IsNearOn periodic n x → (x -ℤ (turn_on periodic n x *ℤ n)) ≡ wrapped_on periodic n x
turned_on false n x p near = omega (arith, ints)
turned_on true n x p near =
    let h = near refl in
    sym (rem-is n x (x -ℤ (turn_on true n x *ℤ n)) (omega (arith, ints)) (record {
      low = turned_low n x p h.0 h.1;
      high = turned_high n x p h.0 h.1;
      lengths = turn_on true n x;
      apart = omega (arith, ints);
    }))

-- a cell that a shift leads into the frame is near it
pub near_of_step : (periodic : Bool) (n x s : ℤ) → pos 1 ≤ℤ n → IsStepOn periodic s → pos 0 ≤ℤ (x -ℤ (s *ℤ n)) → (x -ℤ (s *ℤ n)) <ℤ n → IsNearOn periodic n x
near_of_step periodic n x s p step low high = λ e.
    let b = shifted_bounds s n (omega (arith, ints)) step.0 step.1 in
    (omega (arith, ints, b.0, b.1), omega (arith, ints, b.0, b.1))

-- and that shift is the turn
pub turn_is : (periodic : Bool) (n x s : ℤ) → pos 1 ≤ℤ n → IsStepOn periodic s → pos 0 ≤ℤ (x -ℤ (s *ℤ n)) → (x -ℤ (s *ℤ n)) <ℤ n → s ≡ turn_on periodic n x
turn_is false n x s p step low high = step.2 refl
turn_is true n x s p step low high =
    let h = near_of_step true n x s p step low high refl in
    let a = turned_low n x p h.0 h.1 in
    let b = turned_high n x p h.0 h.1 in
    let t = turn_on true n x in
    let le = not_more n (x -ℤ (s *ℤ n)) (x -ℤ (t *ℤ n)) s t (omega (arith, ints)) low b (omega (arith, ints)) in
    let ge = not_more n (x -ℤ (t *ℤ n)) (x -ℤ (s *ℤ n)) t s (omega (arith, ints)) a high (omega (arith, ints)) in
    omega (arith, ints, le, ge)

-- a turn is a shift of the frame
pub turn_step : (periodic : Bool) (n x : ℤ) → IsStepOn periodic (turn_on periodic n x)
turn_step true n x = (grind (arith, ints), grind (arith, ints), λ e. absurd (true≢false e))
turn_step false n x = (omega (arith, ints), omega (arith, ints), λ e. refl)

pub turns_shift : (d : Space) (x : IVec) → IsShiftOf d (turns d x)
turns_shift d x I = turn_step d.periodic.i d.size.i x.i
turns_shift d x J = turn_step d.periodic.j d.size.j x.j
turns_shift d x K = turn_step d.periodic.k d.size.k x.k

pub IsShift-of : (d : Space) (s : IVec) → IsShiftOf d s → IsShift s
IsShift-of d s h = record {
  low = record { k = (h K).0; j = (h J).0; i = (h I).0 };
  high = record { k = (h K).1; j = (h J).1; i = (h I).1 };
}

pub turns_home : (d : Space) (x : IVec) → IsSpace d → IsNearFrame d x → minus x (times (turns d x) d.size) ≡ wrapped d x
turns_home d x h near =
    same_cell (turned_on d.periodic.k d.size.k x.k h.low.k (near K))
    (turned_on d.periodic.j d.size.j x.j h.low.j (near J))
    (turned_on d.periodic.i d.size.i x.i h.low.i (near I))

-- the shift that leads a cell into the frame is its turns
pub turns_is : (d : Space) (x s : IVec) → IsSpace d → IsShiftOf d s → Holds (whole d) (minus x (times s d.size)) → s ≡ turns d x
turns_is d x s h step home =
    same_cell (turn_is d.periodic.k d.size.k x.k s.k h.low.k (step K) home.low.k (omega (arith, ints, home.high.k)))
    (turn_is d.periodic.j d.size.j x.j s.j h.low.j (step J) home.low.j (omega (arith, ints, home.high.j)))
    (turn_is d.periodic.i d.size.i x.i s.i h.low.i (step I) home.low.i (omega (arith, ints, home.high.i)))

pub near_of_shift : (d : Space) (x s : IVec) → IsSpace d → IsShiftOf d s → Holds (whole d) (minus x (times s d.size)) → IsNearFrame d x
near_of_shift d x s h step home I =
    near_of_step d.periodic.i d.size.i x.i s.i h.low.i (step I) home.low.i (omega (arith, ints, home.high.i))
near_of_shift d x s h step home J =
    near_of_step d.periodic.j d.size.j x.j s.j h.low.j (step J) home.low.j (omega (arith, ints, home.high.j))
near_of_shift d x s h step home K =
    near_of_step d.periodic.k d.size.k x.k s.k h.low.k (step K) home.low.k (omega (arith, ints, home.high.k))

-- cells of the frame, and their neighbours
stays_on : (periodic : Bool) (n x : ℤ) → pos 1 ≤ℤ n → pos 0 ≤ℤ x → x <ℤ n → wrapped_on periodic n x ≡ x
stays_on false n x p low high = refl
stays_on true n x p low high =
    rem-is n x x (omega (arith, ints)) (record { low = low; high = high; lengths = pos 0; apart = omega (arith, ints) })

pub wrapped_stays : (d : Space) (x : IVec) → IsSpace d → Holds (whole d) x → wrapped d x ≡ x
wrapped_stays d x h home =
    same_cell (stays_on d.periodic.k d.size.k x.k h.low.k home.low.k (omega (arith, ints, home.high.k)))
    (stays_on d.periodic.j d.size.j x.j h.low.j home.low.j (omega (arith, ints, home.high.j)))
    (stays_on d.periodic.i d.size.i x.i h.low.i home.low.i (omega (arith, ints, home.high.i)))

twice_on : (periodic : Bool) (n x : ℤ) → pos 1 ≤ℤ n → wrapped_on periodic n (wrapped_on periodic n x) ≡ wrapped_on periodic n x
twice_on false n x p = refl
twice_on true n x p =
    let f = IsRemainder-rem n x (omega (arith, ints)) in
    stays_on true n (int_rem_euclid x n) p f.low f.high

pub wrapped_twice : (d : Space) (x : IVec) → IsSpace d → wrapped d (wrapped d x) ≡ wrapped d x
wrapped_twice d x h =
    same_cell (twice_on d.periodic.k d.size.k x.k h.low.k)
    (twice_on d.periodic.j d.size.j x.j h.low.j)
    (twice_on d.periodic.i d.size.i x.i h.low.i)

pub near_neighbour : (d : Space) (w x y : IVec) → AtMost w d.size → Holds (whole d) x → Within w x y → IsNearFrame d y
near_neighbour d w x y p home near I = λ e. (
  omega (arith, ints, p.i, home.low.i, home.high.i, near.low.i, near.high.i),
  omega (arith, ints, p.i, home.low.i, home.high.i, near.low.i, near.high.i),
)
near_neighbour d w x y p home near J = λ e. (
  omega (arith, ints, p.j, home.low.j, home.high.j, near.low.j, near.high.j),
  omega (arith, ints, p.j, home.low.j, home.high.j, near.low.j, near.high.j),
)
near_neighbour d w x y p home near K = λ e. (
  omega (arith, ints, p.k, home.low.k, home.high.k, near.low.k, near.high.k),
  omega (arith, ints, p.k, home.low.k, home.high.k, near.low.k, near.high.k),
)

-- a cell on a finer level and the cell in which it lies
positive : (n r : ℤ) → pos 1 ≤ℤ n → pos 1 ≤ℤ r → pos 0 <ℤ (n *ℤ r)
positive n r p q = let m = mul_le r (pos 1) n (omega (arith, ints)) p in omega (arith, ints, m)

wrapped_coarse_on : (periodic : Bool) (n r x : ℤ) → pos 1 ≤ℤ n → pos 1 ≤ℤ r → floor (wrapped_on periodic (n *ℤ r) x) r ≡ wrapped_on periodic n (floor x r)
wrapped_coarse_on false n r x p q = refl
wrapped_coarse_on true n r x p q = floor-rem n r x (omega (arith, ints)) (omega (arith, ints)) (positive n r p q)

pub wrapped_coarse : (d : Space) (r x : IVec) → IsSpace d → IsRatio r → coarse (wrapped (finer d r) x) r ≡ wrapped d (coarse x r)
wrapped_coarse d r x h q =
    same_cell (wrapped_coarse_on d.periodic.k d.size.k r.k x.k h.low.k q.low.k)
    (wrapped_coarse_on d.periodic.j d.size.j r.j x.j h.low.j q.low.j)
    (wrapped_coarse_on d.periodic.i d.size.i r.i x.i h.low.i q.low.i)

-- the quotient lies below a number exactly where the dividend lies below its product
below_coarse : (x r z : ℤ) → pos 0 <ℤ r → int_lt x (z *ℤ r) ≡ int_lt (floor x r) z
below_coarse x r z p =
    by_lt_z x (z *ℤ r)
    (λ lt.
    let f : floor x r <ℤ z = by_lt_z (floor x r) z (λ l. l) (λ ge. let m = mul-from_floor x r z p ge in absurd (omega (arith, ints, m))) in
    grind (arith, ints, lt, f))
    (λ ge.
    let f : z ≤ℤ floor x r = floor-from_mul x r z p ge in
    grind (arith, ints, ge, f))

turn_coarse_on : (periodic : Bool) (n r x : ℤ) → pos 1 ≤ℤ r → turn_on periodic (n *ℤ r) x ≡ turn_on periodic n (floor x r)
turn_coarse_on false n r x q = refl
turn_coarse_on true n r x q =
    let zero : int_lt x (pos 0) ≡ int_lt (floor x r) (pos 0) =
    ap (λ (v : ℤ). int_lt x v) (sym (mul_zero r)) ∙ below_coarse x r (pos 0) (omega (arith, ints)) in
    let last = below_coarse x r n (omega (arith, ints)) in
    ap (λ (b : Bool). cond b (negsuc 0) (cond (int_lt x (n *ℤ r)) (pos 0) (pos 1))) zero
    ∙ ap (λ (b : Bool). cond (int_lt (floor x r) (pos 0)) (negsuc 0) (cond b (pos 0) (pos 1))) last

pub turns_coarse : (d : Space) (r x : IVec) → IsRatio r → turns (finer d r) x ≡ turns d (coarse x r)
turns_coarse d r x q =
    same_cell (turn_coarse_on d.periodic.k d.size.k r.k x.k q.low.k)
    (turn_coarse_on d.periodic.j d.size.j r.j x.j q.low.j)
    (turn_coarse_on d.periodic.i d.size.i r.i x.i q.low.i)

-- a number from -1 to 1 that is kept in eight bits
pub kept_step : (n m : ℤ) → n ≡ m → negsuc 0 ≤ℤ m → m ≤ℤ pos 1 → to_z w8 (of_z w8 n) ≡ m
kept_step n m e low high =
    let f : FitsSigned w8 m = omega (arith, ints) in
    ap (λ (v : ℤ). to_z w8 (of_z w8 v)) e ∙ to_z-of_z w8 m f

-- three such numbers that are the turns
pub kept_turns : (d : Space) (x s : IVec) → s.k ≡ at K (turns d x) → s.j ≡ at J (turns d x) → s.i ≡ at I (turns d x)
    → (let t : IVec = record { k = to_z w8 (of_z w8 s.k); j = to_z w8 (of_z w8 s.j); i = to_z w8 (of_z w8 s.i) } in t) ≡ turns d x
kept_turns d x s k j i =
    let step = turns_shift d x in
    same_cell (kept_step s.k (at K (turns d x)) k (step K).0 (step K).1)
    (kept_step s.j (at J (turns d x)) j (step J).0 (step J).1)
    (kept_step s.i (at I (turns d x)) i (step I).0 (step I).1)

-- A cell within the width of a box, under a cell of an image of a coarse box: the two are near.
use Rattle.std.proofs.Common.{◌≡◌, sym, ap, ◌∙◌, subst, arith}
use Rattle.std.proofs.lemmas.Int.{ints, clamps}
use Rattle.std.specs.Prelude.{ℤ, pos, neg_ℤ, ◌+ℤ◌, ◌-ℤ◌, ◌*ℤ◌, ◌≤ℤ◌, Bool, true}
use Rattle.samr_box.specs.declared.vector.IVec.{IVec}
use Rattle.samr_box.specs.Vector.{alike, minus, times, greatest, AtMost, IsRatio}
use Rattle.samr_box.specs.Corners.{Corners, Holds, meets, grown}
use Rattle.samr_box.specs.Ratios.{floor, coarse, refined}
use Rattle.samr_box.specs.Space.{Space, finer, image}
use Rattle.samr_box.proofs.Vectors.{same_cell}
use Rattle.samr_box.proofs.Products.{mul-neg, mul_assoc, mul_comm, mul_one, mul_le}
use Rattle.samr_box.proofs.Floors.{floor_self, last-from_floor}
use Rattle.samr_box.proofs.CellSets.{meets-from, Meet-cell, Holds-refined}
use Rattle.samr_level.specs.Refs.{Link}
use Rattle.samr_level.specs.Overlaps.{scale, is_true, rounded_up}
use Rattle.samr_border.proofs.Remainders.{floor-plus}
use Rattle.samr_border.proofs.ImageCells.{holds_moved_back}
use Rattle.samr_nest.proofs.EdgeImages.{times_one, refined_one}
use Rattle.samr_sched.proofs.Plain.{quotient_is}

pub grown_wider : (b : Corners) (g v x : IVec) → AtMost g v → Holds (grown b g) x → Holds (grown b v) x
grown_wider b g v x w h = record {
  low = record { k = omega (arith, ints, h.low.k, w.k); j = omega (arith, ints, h.low.j, w.j); i = omega (arith, ints, h.low.i, w.i) };
  high = record { k = omega (arith, ints, h.high.k, w.k); j = omega (arith, ints, h.high.j, w.j); i = omega (arith, ints, h.high.i, w.i) };
}

-- the cell over a moved cell
moved_on : (x s c r : ℤ) → pos 1 ≤ℤ r → floor (x -ℤ (s *ℤ (c *ℤ r))) r ≡ floor x r -ℤ (s *ℤ c)
moved_on x s c r p =
    let product = mul_assoc s c r in
    let neg = mul-neg (s *ℤ c) r in
    let step : x -ℤ (s *ℤ (c *ℤ r)) ≡ x +ℤ (neg_ℤ (s *ℤ c) *ℤ r) = omega (arith, ints, product, neg) in
    ap (λ (v : ℤ). floor v r) step ∙ floor-plus x (neg_ℤ (s *ℤ c)) r (omega (arith, ints, p)) ∙ omega (arith, ints)

pub image_over : (d : Space) (r : IVec) (b : Corners) (s x : IVec) → IsRatio r → Holds (image d b s) (coarse x r) → Holds (image (finer d r) (refined b r) s) x
image_over d r b s x h has =
    let back = (holds_moved_back d b s (coarse x r)).0 has in
    let moved : coarse (minus x (times s (times d.size r))) r ≡ minus (coarse x r) (times s d.size) =
    same_cell (moved_on x.k s.k d.size.k r.k h.low.k) (moved_on x.j s.j d.size.j r.j h.low.j) (moved_on x.i s.i d.size.i r.i h.low.i) in
    (holds_moved_back (finer d r) (refined b r) s x).1
    ((Holds-refined b r (minus x (times s (times d.size r))) h).1 (subst (λ (v : IVec). Holds b v) (sym moved) back))

-- a width rounded up is enough
enough_on : (g s r : ℤ) → pos 1 ≤ℤ s → floor (g +ℤ (s -ℤ pos 1)) s ≤ℤ r → g ≤ℤ (r *ℤ s)
enough_on g s r p h =
    let last = last-from_floor (g +ℤ (s -ℤ pos 1)) s r (omega (arith, ints, p)) h in
    omega (arith, ints, last)

enough : (g s r : IVec) → IsRatio s → AtMost (rounded_up g s) r → AtMost g (times r s)
enough g s r p h = record { k = enough_on g.k s.k r.k p.low.k h.k; j = enough_on g.j s.j r.j p.low.j h.j; i = enough_on g.i s.i r.i p.low.i h.i }

-- the finer of two ratios
more_on : (b s : ℤ) → pos 1 ≤ℤ b → pos 1 ≤ℤ s → b ≤ℤ (b *ℤ s)
more_on b s p q =
    let more = mul_le b (pos 1) s (omega (arith, ints, p)) q in
    let one = mul_one b in
    let swap = mul_comm s b in
    omega (arith, ints, more, one, swap)

finer_is : (b s r : IVec) → IsRatio b → IsRatio s → times b s ≡ r → greatest r b ≡ r
finer_is b s r p q e =
    subst (λ (v : IVec). greatest v b ≡ v) e
    (let k = more_on b.k s.k p.low.k q.low.k in
    let j = more_on b.j s.j p.low.j q.low.j in
    let i = more_on b.i s.i p.low.i q.low.i in
    same_cell (omega (arith, ints, clamps, k)) (omega (arith, ints, clamps, j)) (omega (arith, ints, clamps, i)))

itself : (r : IVec) → IsRatio r → coarse r r ≡ alike (pos 1)
itself r h =
    let k = h.low.k in
    let j = h.low.j in
    let i = h.low.i in
    same_cell (floor_self r.k (omega (arith, ints, k))) (floor_self r.j (omega (arith, ints, j))) (floor_self r.i (omega (arith, ints, i)))

pub down_near : (d : Space) (reach ratio below step g x : IVec) (e : Link) → IsRatio ratio → IsRatio below → IsRatio step → times below step ≡ ratio
    → AtMost (rounded_up g step) reach → Holds (grown e.base.bx g) x → Holds (image (finer d below) e.head.bx e.shift) (coarse x step)
    → finer d ratio ≡ finer (finer d below) step → is_true (scale d reach ratio below) e ≡ true
down_near d reach ratio below step g x e p q r product wide has over frame =
    let T : IVec → IVec → IVec → Bool = λ v f k. meets (grown (refined e.base.bx f) (times (times reach f) k)) (image (finer d v) (refined e.head.bx k) e.shift) in
    let one : IVec = alike (pos 1) in
    let top = finer_is below step ratio q r product in
    let near : meets (grown e.base.bx (times reach step)) (image (finer d ratio) (refined e.head.bx step) e.shift) ≡ true =
    meets-from {a = grown e.base.bx (times reach step)} {b = image (finer d ratio) (refined e.head.bx step) e.shift}
    (Meet-cell {a = grown e.base.bx (times reach step)} {b = image (finer d ratio) (refined e.head.bx step) e.shift} {x = x}
    (grown_wider e.base.bx g (times reach step) x (enough g step reach r wide) has)
    (subst (λ (s : Space). Holds (image s (refined e.head.bx step) e.shift) x) (sym frame) (image_over (finer d below) step e.head.bx e.shift x r over))) in
    ap (λ (v : IVec). T v (coarse v ratio) (coarse v below)) top
    ∙ ap (λ (f : IVec). T ratio f (coarse ratio below)) (itself ratio p)
    ∙ ap (λ (k : IVec). T ratio one k) (quotient_is below step ratio q product)
    ∙ ap (λ (b : Corners). meets (grown b (times (times reach one) step)) (image (finer d ratio) (refined e.head.bx step) e.shift)) (refined_one e.base.bx)
    ∙ ap (λ (v : IVec). meets (grown e.base.bx (times v step)) (image (finer d ratio) (refined e.head.bx step) e.shift)) (times_one reach)
    ∙ near

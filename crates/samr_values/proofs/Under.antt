-- Coarse cells under a fine level, and the edges that join their boxes with those over them.
use Rattle.std.proofs.Common.{◌≡◌, refl, sym, ap, subst, ◌∙◌, inl, inr, arith}
use Rattle.std.proofs.lemmas.Int.{ints, clamps}
use Rattle.std.proofs.lemmas.Bool.{or_cases, or_left, or_right, false≢true}
use Rattle.std.specs.Prelude.{ℤ, pos, ◌≤ℤ◌, ◌<ℤ◌, ◌*ℤ◌, Bool, true, false, cond, List, [], ◌∷◌, Option, Some, None, IsSomeAnd}
use Rattle.std.specs.List.{list_any}
use Rattle.std.specs.Option.{option_map}
use Rattle.samr_box.specs.declared.vector.IVec.{IVec}
use Rattle.samr_box.specs.Vector.{alike, times, greatest, AtMost, IsRatio, Within}
use Rattle.samr_box.specs.Corners.{Corners, Holds, meets, met, common}
use Rattle.samr_box.specs.Ratios.{floor, coarse, refined}
use Rattle.samr_box.specs.Space.{Space, image}
use Rattle.samr_box.specs.Lists.{Member}
use Rattle.samr_box.proofs.CellSets.{Holds-refined}
use Rattle.samr_box.proofs.Floors.{floor-mul, floor_self}
use Rattle.samr_box.proofs.Products.{mul_le, mul_one, mul_comm}
use Rattle.samr_box.proofs.Vectors.{same_cell}
use Rattle.samr_level.specs.Overlaps.{Scale, scale, near}
use Rattle.samr_level.proofs.Reaches.{near-means}

-- a list has a member that passes a test
pub any_is : {X : Type 0} (p : X → Bool) (x : X) (xs : List X) → Member x xs → p x ≡ true → list_any p xs ≡ true
any_is p x [] m t = absurd m
any_is p x (y ∷ ys) (inl same) t = or_left (p y) (list_any p ys) (ap p (sym same) ∙ t)
any_is p x (y ∷ ys) (inr m) t = or_right (p y) (list_any p ys) (any_is p x ys m t)

pub any_from : {X : Type 0} (p : X → Bool) (xs : List X) → list_any p xs ≡ true → (x : X) × Member x xs × (p x ≡ true)
any_from p [] t = absurd (false≢true t)
any_from p (y ∷ ys) t = elim (or_cases (p y) (list_any p ys) t) [
  | inl here ↦ (y, inl refl, here)
  | inr later ↦ let r = any_from p ys later in (r.0, inr r.1, r.2)
]

-- what an option has
pub some_and : {X : Type 0} (P : X → Type 0) (o : Option X) → IsSomeAnd o P → (x : X) × (o ≡ Some x) × P x
some_and P (Some x) h = (x, refl, h)
some_and P None h = absurd h

pub mapped : {X Y : Type 0} (g : X → Y) (o : Option X) (y : Y) → option_map g o ≡ Some y → (x : X) × (o ≡ Some x) × (y ≡ g x)
mapped g (Some x) y e = (x, refl, cc)
mapped g None y e = cc

pub met_some : (a b c : Corners) → met a b ≡ Some c → (c ≡ common a b) × (meets a b ≡ true)
met_some a b c e = by (meets a b) refl e
  where
    by : (t : Bool) → meets a b ≡ t → cond t (Some (common a b)) None ≡ Some c → (c ≡ common a b) × (meets a b ≡ true)
    by true s h = (cc, s)
    by false s h = cc

-- the first fine cell over a coarse one
pub coarse_times : (x r : IVec) → IsRatio r → coarse (times x r) r ≡ x
coarse_times x r q =
    same_cell (floor-mul r.k x.k (omega (arith, ints, q.low.k))) (floor-mul r.j x.j (omega (arith, ints, q.low.j))) (floor-mul r.i x.i (omega (arith, ints, q.low.i)))

-- the numbers of the scale of a level and one that is finer by a step
up : (r s : ℤ) → pos 1 ≤ℤ r → pos 1 ≤ℤ s → r ≤ℤ (r *ℤ s)
up r s p h =
    let m = mul_le r (pos 1) s (omega (arith, ints, p)) h in
    let one = mul_one r in
    let turned = mul_comm s r in
    omega (arith, ints, m, one, turned)

pub greater : (ratio step : IVec) → IsRatio ratio → IsRatio step → greatest (times ratio step) ratio ≡ times ratio step
greater ratio step p q =
    let k = up ratio.k step.k p.low.k q.low.k in
    let j = up ratio.j step.j p.low.j q.low.j in
    let i = up ratio.i step.i p.low.i q.low.i in
    same_cell (omega (arith, ints, clamps, k)) (omega (arith, ints, clamps, j)) (omega (arith, ints, clamps, i))

positive : (r s : ℤ) → pos 1 ≤ℤ r → pos 1 ≤ℤ s → pos 0 <ℤ (r *ℤ s)
positive r s p h = let u = up r s p h in omega (arith, ints, u, p)

pub itself : (ratio step : IVec) → IsRatio ratio → IsRatio step → coarse (times ratio step) (times ratio step) ≡ alike (pos 1)
itself ratio step p q =
    same_cell (floor_self (ratio.k *ℤ step.k) (positive ratio.k step.k p.low.k q.low.k)) (floor_self (ratio.j *ℤ step.j) (positive ratio.j step.j p.low.j q.low.j))
    (floor_self (ratio.i *ℤ step.i) (positive ratio.i step.i p.low.i q.low.i))

apart : (r s : ℤ) → pos 1 ≤ℤ r → floor (r *ℤ s) r ≡ s
apart r s p = ap (λ (z : ℤ). floor z r) (mul_comm r s) ∙ floor-mul r s (omega (arith, ints, p))

pub quotient : (ratio step : IVec) → IsRatio ratio → coarse (times ratio step) ratio ≡ step
quotient ratio step p = same_cell (apart ratio.k step.k p.low.k) (apart ratio.j step.j p.low.j) (apart ratio.i step.i p.low.i)

ones : IsRatio (alike (pos 1))
ones = record {
  low = record { k = omega (arith, ints); j = omega (arith, ints); i = omega (arith, ints) };
  high = record { k = omega (arith, ints); j = omega (arith, ints); i = omega (arith, ints) };
}

by_one : (x : IVec) → coarse x (alike (pos 1)) ≡ x
by_one x =
    let e : times x (alike (pos 1)) ≡ x = same_cell (omega (arith, ints)) (omega (arith, ints)) (omega (arith, ints)) in
    ap (λ (y : IVec). coarse y (alike (pos 1))) (sym e) ∙ coarse_times x (alike (pos 1)) ones

not_negative : (w s : ℤ) → pos 0 ≤ℤ w → pos 1 ≤ℤ s → pos 0 ≤ℤ ((w *ℤ pos 1) *ℤ s)
not_negative w s h p =
    let m = mul_le s (pos 0) (w *ℤ pos 1) (omega (arith, ints, p)) (omega (arith, ints, h)) in
    omega (arith, ints, m)

pub wide : (width step : IVec) → AtMost (alike (pos 0)) width → IsRatio step → AtMost (alike (pos 0)) (times (times width (alike (pos 1))) step)
wide width step h q = record {
  k = not_negative width.k step.k h.k q.low.k;
  j = not_negative width.j step.j h.j q.low.j;
  i = not_negative width.i step.i h.i q.low.i;
}

-- at no shift an image is the box itself
unmoved : (d : Space) (b : Corners) (x : IVec) → Holds b x → Holds (image d b (alike (pos 0))) x
unmoved d b x h = record {
  low = record { k = omega (arith, ints, h.low.k); j = omega (arith, ints, h.low.j); i = omega (arith, ints, h.low.i) };
  high = record { k = omega (arith, ints, h.high.k); j = omega (arith, ints, h.high.j); i = omega (arith, ints, h.high.i) };
}

stays : (w x : IVec) → AtMost (alike (pos 0)) w → Within w x x
stays w x h = record {
  low = record { k = omega (arith, ints, h.k); j = omega (arith, ints, h.j); i = omega (arith, ints, h.i) };
  high = record { k = omega (arith, ints, h.k); j = omega (arith, ints, h.j); i = omega (arith, ints, h.i) };
}

near_at : (n : Scale) (step : IVec) (b a : Corners) (y : IVec) → IsRatio step → n.base ≡ alike (pos 1) → n.head ≡ step → AtMost (alike (pos 0)) n.reach
    → AtMost b.lo b.hi → AtMost a.lo a.hi → Holds b y → Holds a (coarse y step) → near n b a (alike (pos 0)) ≡ true
near_at n step b a y q base head reach fb fa hb ha =
    let one = subst (λ (v : IVec). IsRatio v) (sym base) ones in
    let other = subst (λ (v : IVec). IsRatio v) (sym head) q in
    let there = subst (λ (v : IVec). Holds (refined b v) y) (sym base) ((Holds-refined b (alike (pos 1)) y ones).1 (subst (λ (v : IVec). Holds b v) (sym (by_one y)) hb)) in
    let under = subst (λ (v : IVec). Holds (refined a v) y) (sym head) ((Holds-refined a step y q).1 ha) in
    (near-means n b a (alike (pos 0)) one other reach fb fa).1 (y, y, there, unmoved n.domain (refined a n.head) y under, stays n.reach y reach)

-- a fine box with a cell is near a coarse box with the cell under it
pub near_above : (frame : Space) (width ratio step : IVec) (b a : Corners) (y : IVec) → IsRatio ratio → IsRatio step → AtMost (alike (pos 0)) width
    → AtMost b.lo b.hi → AtMost a.lo a.hi → Holds b y → Holds a (coarse y step) → near (scale frame width (times ratio step) ratio) b a (alike (pos 0)) ≡ true
near_above frame width ratio step b a y p q h fb fa hb ha =
    let n = scale frame width (times ratio step) ratio in
    let most = greater ratio step p q in
    let base : n.base ≡ alike (pos 1) = ap (λ (g : IVec). coarse g (times ratio step)) most ∙ itself ratio step p q in
    let head : n.head ≡ step = ap (λ (g : IVec). coarse g ratio) most ∙ quotient ratio step p in
    let reach : n.reach ≡ times (times width (alike (pos 1))) step =
    ap (λ (v : IVec). times (times width v) n.head) base ∙ ap (λ (v : IVec). times (times width (alike (pos 1))) v) head in
    near_at n step b a y q base head (subst (λ (v : IVec). AtMost (alike (pos 0)) v) (sym reach) (wide width step h q)) fb fa hb ha

-- and so is a fine box over the first child of a cell of a coarse box
pub near_over : (frame : Space) (width ratio step : IVec) (b a : Corners) (x : IVec) → IsRatio ratio → IsRatio step → AtMost (alike (pos 0)) width
    → AtMost b.lo b.hi → AtMost a.lo a.hi → Holds b (times x step) → Holds a x → near (scale frame width (times ratio step) ratio) b a (alike (pos 0)) ≡ true
near_over frame width ratio step b a x p q h fb fa hb ha =
    near_above frame width ratio step b a (times x step) p q h fb fa hb (subst (λ (v : IVec). Holds a v) (sym (coarse_times x step q)) ha)

-- boxes of one index space with a common cell are near each other
pub near_same : (frame : Space) (width ratio : IVec) (b a : Corners) (x : IVec) → IsRatio ratio → AtMost (alike (pos 0)) width
    → AtMost b.lo b.hi → AtMost a.lo a.hi → Holds b x → Holds a x → near (scale frame width ratio ratio) b a (alike (pos 0)) ≡ true
near_same frame width ratio b a x p h fb fa hb ha =
    let e : times ratio (alike (pos 1)) ≡ ratio = same_cell (omega (arith, ints)) (omega (arith, ints)) (omega (arith, ints)) in
    subst (λ (v : IVec). near (scale frame width v ratio) b a (alike (pos 0)) ≡ true) e
    (near_above frame width ratio (alike (pos 1)) b a x p ones h fb fa hb (subst (λ (v : IVec). Holds a v) (sym (by_one x)) ha))

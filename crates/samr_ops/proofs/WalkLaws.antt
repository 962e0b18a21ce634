-- The walk of a cell beyond the borders: what one step does, and where the walk ends.
use Rattle.std.proofs.Common.{◌≡◌, ℕ, ◌<◌, Bool, true, false, cond, Result, Ok, Err, refl, ap, sym, subst, ◌∙◌, inl, inr, ◌⊎◌, arith}
use Rattle.std.proofs.lemmas.Int.{ints, clamps, by_lt_z}
use Rattle.std.proofs.lemmas.Bool.{cond-true, cond-false, cond_both, and_parts, or_cases, not-true, false≢true, false_from_ne_true}
use Rattle.std.specs.Prelude.{ℤ, pos, negsuc, ◌+ℤ◌, ◌-ℤ◌, ◌≤ℤ◌, ◌<ℤ◌, int_lt, not, ◌&&◌, ◌||◌}
use Rattle.samr_box.specs.declared.vector.Axis.{Axis}
use Rattle.samr_box.specs.declared.vector.Axis.TheVariants.{I, J, K}
use Rattle.samr_box.specs.declared.vector.IVec.{IVec}
use Rattle.samr_box.specs.Vector.{at, put}
use Rattle.samr_box.specs.Space.{Space, IsSpace, flag, leaves, clamped, mirrored}
use Rattle.samr_box.proofs.Vectors.{at-put, AtMost-at}
use Rattle.samr_ops.specs.declared.rules.Rule.{Rule}
use Rattle.samr_ops.specs.declared.rules.Rule.TheVariants.{Fixed, Clamp, Reflect}
use Rattle.samr_ops.specs.declared.rules.Rules.{Rules}
use Rattle.samr_ops.specs.Rules.{IsRules, IsBelow, rule_on, edge_by, edge_of}
use Rattle.samr_ops.specs.Walks.{depth, moved_in, answered, stepped, onward, walked, IsNearOn, IsInside}
use Rattle.samr_ops.specs.Laws.{ClampMovesToTheNearest, ReflectMirrors, GrownCellsAreNear, WalksStayNear, WalksEndInside, WalksStayInside, FixedValuesFit}

-- which side of the domain a cell lies on
pub leaves_cases : (axis : Axis) (d : Space) (x : IVec) → leaves axis d x ≡ true → (at axis x <ℤ pos 0) ⊎ (at axis d.size ≤ℤ at axis x)
leaves_cases axis d x t =
    let s = and_parts (not (flag axis d.periodic)) (int_lt (at axis x) (pos 0) || not (int_lt (at axis x) (at axis d.size))) t in
    elim (or_cases (int_lt (at axis x) (pos 0)) (not (int_lt (at axis x) (at axis d.size))) s.1) [
      | inl low ↦ inl (grind (arith, ints, low))
      | inr high ↦ let f = not-true (int_lt (at axis x) (at axis d.size)) high in inr (grind (arith, ints, f))
    ]

is_below_zero : (z : ℤ) → z <ℤ pos 0 → int_lt z (pos 0) ≡ true
is_below_zero z h = grind (arith, ints)

not_below_zero : (z : ℤ) → pos 0 ≤ℤ z → int_lt z (pos 0) ≡ false
not_below_zero z h = grind (arith, ints)

pub depth_low : (axis : Axis) (d : Space) (x : IVec) → at axis x <ℤ pos 0 → depth axis d x ≡ pos 0 -ℤ at axis x
depth_low axis d x h = cond-true (int_lt (at axis x) (pos 0)) (pos 0 -ℤ at axis x) ((at axis x -ℤ at axis d.size) +ℤ pos 1) (is_below_zero (at axis x) h)

pub depth_high : (axis : Axis) (d : Space) (x : IVec) → pos 0 ≤ℤ at axis x → depth axis d x ≡ (at axis x -ℤ at axis d.size) +ℤ pos 1
depth_high axis d x h = cond-false (int_lt (at axis x) (pos 0)) (pos 0 -ℤ at axis x) ((at axis x -ℤ at axis d.size) +ℤ pos 1) (not_below_zero (at axis x) h)

pub moved_low : (axis : Axis) (d : Space) (x : IVec) (e : ℤ) → at axis x <ℤ pos 0 → moved_in axis d x e ≡ put axis x (e -ℤ pos 1)
moved_low axis d x e h = ap (put axis x) (cond-true (int_lt (at axis x) (pos 0)) (e -ℤ pos 1) (at axis d.size -ℤ e) (is_below_zero (at axis x) h))

pub moved_high : (axis : Axis) (d : Space) (x : IVec) (e : ℤ) → pos 0 ≤ℤ at axis x → moved_in axis d x e ≡ put axis x (at axis d.size -ℤ e)
moved_high axis d x e h = ap (put axis x) (cond-false (int_lt (at axis x) (pos 0)) (e -ℤ pos 1) (at axis d.size -ℤ e) (not_below_zero (at axis x) h))

pub size_on : (axis : Axis) (d : Space) → IsSpace d → pos 1 ≤ℤ at axis d.size
size_on I d s = s.low.i
size_on J d s = s.low.j
size_on K d s = s.low.k

pub size_most : (axis : Axis) (d : Space) → IsSpace d → at axis d.size ≤ℤ pos 1073741824
size_most I d s = s.high.i
size_most J d s = s.high.j
size_most K d s = s.high.k

pub depth_positive : (axis : Axis) (d : Space) (x : IVec) → IsSpace d → leaves axis d x ≡ true → pos 1 ≤ℤ depth axis d x
depth_positive axis d x s t =
    elim (leaves_cases axis d x t) [
      | inl low ↦ let e = depth_low axis d x low in omega (arith, ints, e, low)
      | inr high ↦ let wide = size_on axis d s in let e = depth_high axis d x (omega (arith, ints, wide, high)) in omega (arith, ints, e, high)
    ]

-- a boundary's answer lies inside by at most the depth outside
pub inside_of : (rule : Rule) (d : ℤ) → pos 1 ≤ℤ d → IsInside d (edge_by rule d)
inside_of (Fixed v) d h = tt
inside_of Clamp d h = (omega (arith, ints), h)
inside_of Reflect d h = (h, omega (arith, ints))

-- a step leaves all other axes as they are
put_others : (axis other : Axis) (x : IVec) (n : ℤ) → (at other (put axis x n) ≡ at other x) ⊎ (axis ≡ other)
put_others I I x n = inr refl
put_others I J x n = inl refl
put_others I K x n = inl refl
put_others J I x n = inl refl
put_others J J x n = inr refl
put_others J K x n = inl refl
put_others K I x n = inl refl
put_others K J x n = inl refl
put_others K K x n = inr refl

-- what a step does
pub record Moves (d : Space) (axis : Axis) (x y : IVec) : Type 0 where
  pub out : leaves axis d x ≡ true
  pub inside : ℤ
  pub low : pos 1 ≤ℤ inside
  pub high : inside ≤ℤ depth axis d x
  pub is : y ≡ moved_in axis d x inside

moves : (rule : Rule) (d : Space) (axis : Axis) (x y : IVec) → leaves axis d x ≡ true → pos 1 ≤ℤ depth axis d x → answered axis d x (edge_by rule (depth axis d x)) ≡ Ok y → Moves d axis x y
moves (Fixed v) d axis x y t h e = absurd cc
moves Clamp d axis x y t h e = record { out = t; inside = pos 1; low = omega (arith, ints); high = h; is = cc }
moves Reflect d axis x y t h e = record { out = t; inside = depth axis d x; low = h; high = omega (arith, ints); is = cc }

same_ok : (x y : IVec) → ◌≡◌ {A = Result IVec ℕ} (Ok x) (Ok y) → y ≡ x
same_ok x y e = cc

-- where a step leaves a cell, all other axes are as they were
answered_moves : (rule : Rule) (d : Space) (axis : Axis) (x y : IVec) (h : ℤ) → answered axis d x (edge_by rule h) ≡ Ok y → (e : ℤ) × (y ≡ moved_in axis d x e)
answered_moves (Fixed v) d axis x y h e = absurd cc
answered_moves Clamp d axis x y h e = (pos 1, cc)
answered_moves Reflect d axis x y h e = (h, cc)

pub others_stay : (r : Rules) (d : Space) (axis other : Axis) (x y : IVec) → (axis ≡ other → ⊥) → stepped r d axis x ≡ Ok y → at other y ≡ at other x
others_stay r d axis other x y apart =
    cond_both (leaves axis d x) (answered axis d x (edge_of r axis (depth axis d x))) (Ok x) (λ o. o ≡ Ok y → at other y ≡ at other x)
    (λ t e.
    let m = answered_moves (rule_on axis r.boundary) d axis x y (depth axis d x) e in
    ap (at other) m.1
    ∙ elim (put_others axis other x (cond (int_lt (at axis x) (pos 0)) (m.0 -ℤ pos 1) (at axis d.size -ℤ m.0))) [ inl same ↦ same | inr here ↦ absurd (apart here) ])
    (λ f e. ap (at other) (same_ok x y e))

pub step_of : (r : Rules) (d : Space) (axis : Axis) (x y : IVec) → IsSpace d → stepped r d axis x ≡ Ok y → ((leaves axis d x ≡ false) × (y ≡ x)) ⊎ Moves d axis x y
step_of r d axis x y s =
    cond_both (leaves axis d x) (answered axis d x (edge_of r axis (depth axis d x))) (Ok x) (λ o. o ≡ Ok y → ((leaves axis d x ≡ false) × (y ≡ x)) ⊎ Moves d axis x y)
    (λ t e. inr (moves (rule_on axis r.boundary) d axis x y t (depth_positive axis d x s t) e))
    (λ f e. inl (f, same_ok x y e))

pub step_others : (r : Rules) (d : Space) (axis other : Axis) (x y : IVec) → IsSpace d → stepped r d axis x ≡ Ok y → (at other y ≡ at other x) ⊎ (axis ≡ other)
step_others r d axis other x y s e =
    elim (step_of r d axis x y s e) [
      | inl stays ↦ inl (ap (at other) stays.1)
      | inr m ↦ elim (put_others axis other x (cond (int_lt (at axis x) (pos 0)) (m.inside -ℤ pos 1) (at axis d.size -ℤ m.inside))) [
        | inl same ↦ inl (ap (at other) m.is ∙ same)
        | inr here ↦ inr here
      ]
    ]

-- where the moved cell lies on its axis
pub record Lands (d : Space) (axis : Axis) (x y : IVec) (inside : ℤ) : Type 0 where
  pub place : (at axis y ≡ inside -ℤ pos 1) ⊎ (at axis y ≡ at axis d.size -ℤ inside)

lands : (d : Space) (axis : Axis) (x y : IVec) → IsSpace d → (m : Moves d axis x y) → Lands d axis x y m.inside
lands d axis x y s m =
    elim (leaves_cases axis d x m.out) [
      | inl low ↦ record { place = inl (ap (at axis) (m.is ∙ moved_low axis d x m.inside low) ∙ at-put axis x (m.inside -ℤ pos 1)) }
      | inr high ↦
          let wide = size_on axis d s in
          record { place = inr (ap (at axis) (m.is ∙ moved_high axis d x m.inside (omega (arith, ints, wide, high))) ∙ at-put axis x (at axis d.size -ℤ m.inside)) }
    ]

-- facts of one axis speak of the number there alone
leaves_same : (axis : Axis) (d : Space) (x y : IVec) → at axis y ≡ at axis x → leaves axis d y ≡ leaves axis d x
leaves_same axis d x y e = ap (λ z. not (flag axis d.periodic) && (int_lt z (pos 0) || not (int_lt z (at axis d.size)))) e

depth_same : (axis : Axis) (d : Space) (x y : IVec) → at axis y ≡ at axis x → depth axis d y ≡ depth axis d x
depth_same axis d x y e = ap (λ z. cond (int_lt z (pos 0)) (pos 0 -ℤ z) ((z -ℤ at axis d.size) +ℤ pos 1)) e

pub near_same : (r : Rules) (d : Space) (axis : Axis) (x y : IVec) → at axis y ≡ at axis x → IsNearOn r d axis x → IsNearOn r d axis y
near_same r d axis x y e near t =
    let bound = near (sym (leaves_same axis d x y e) ∙ t) in
    let same = depth_same axis d x y e in
    omega (arith, ints, bound, same)

near_moved : (r : Rules) (d : Space) (axis : Axis) (x y : IVec) → IsSpace d → IsNearOn r d axis x → Moves d axis x y → IsNearOn r d axis y
near_moved r d axis x y s near m t =
    let bound = near m.out in
    let wide = size_on axis d s in
    let land = lands d axis x y s m in
    elim (leaves_cases axis d y t) [
      | inl low ↦ let e = depth_low axis d y low in
          elim land.place [ inl a ↦ omega (arith, ints, m.low, a, low) | inr b ↦ omega (arith, ints, e, b, m.high, bound, wide) ]
      | inr high ↦ let e = depth_high axis d y (omega (arith, ints, wide, high)) in
          elim land.place [ inl a ↦ omega (arith, ints, e, a, m.high, bound, wide) | inr b ↦ omega (arith, ints, m.low, b, high) ]
    ]

near_after : (r : Rules) (d : Space) (axis : Axis) (x y : IVec) → IsSpace d → IsNearOn r d axis x → stepped r d axis x ≡ Ok y → IsNearOn r d axis y
near_after r d axis x y s near e =
    elim (step_of r d axis x y s e) [
      | inl stays ↦ near_same r d axis x y (ap (at axis) stays.1) near
      | inr m ↦ near_moved r d axis x y s near m
    ]

pub walks_stay_near : WalksStayNear
walks_stay_near r d axis x y s near e other =
    elim (step_others r d axis other x y s e) [
      | inl same ↦ near_same r d other x y same (near other)
      | inr here ↦ subst (λ a. IsNearOn r d a y) here (near_after r d axis x y s (near axis) e)
    ]

-- a step ends inside its border
not_leaving : (axis : Axis) (d : Space) (y : IVec) → pos 0 ≤ℤ at axis y → at axis y <ℤ at axis d.size → leaves axis d y ≡ false
not_leaving axis d y low high =
    false_from_ne_true (leaves axis d y)
    (λ t. elim (leaves_cases axis d y t) [ inl below ↦ omega (arith, ints, below, low) | inr over ↦ omega (arith, ints, over, high) ])

ends_inside : (r : Rules) (d : Space) (axis : Axis) (x y : IVec) → IsSpace d → IsNearOn r d axis x → at axis r.width ≤ℤ at axis d.size → stepped r d axis x ≡ Ok y → leaves axis d y ≡ false
ends_inside r d axis x y s near fits e =
    elim (step_of r d axis x y s e) [
      | inl stays ↦ leaves_same axis d x y (ap (at axis) stays.1) ∙ stays.0
      | inr m ↦
          let bound = near m.out in
          elim (lands d axis x y s m).place [
            | inl a ↦ not_leaving axis d y (omega (arith, ints, a, m.low)) (omega (arith, ints, a, m.high, bound, fits))
            | inr b ↦ not_leaving axis d y (omega (arith, ints, b, m.high, bound, fits)) (omega (arith, ints, b, m.low))
          ]
    ]

-- a walk that leaves a cell
pub onward_ok : (o : Result IVec ℕ) (next : IVec → Result IVec ℕ) (z : IVec) → onward o next ≡ Ok z → (y : IVec) × (o ≡ Ok y) × (next y ≡ Ok z)
onward_ok (Ok y) next z e = (y, refl, e)
onward_ok (Err v) next z e = absurd cc

pub record Walked (r : Rules) (d : Space) (x z : IVec) : Type 0 where
  pub first : IVec
  pub second : IVec
  pub on_i : stepped r d I x ≡ Ok first
  pub on_j : stepped r d J first ≡ Ok second
  pub on_k : stepped r d K second ≡ Ok z

walk_of : (r : Rules) (d : Space) (x z : IVec) → walked r d x ≡ Ok z → Walked r d x z
walk_of r d x z e =
    let p = onward_ok (stepped r d I x) (λ y. onward (stepped r d J y) (λ z. stepped r d K z)) z e in
    let q = onward_ok (stepped r d J p.0) (λ z. stepped r d K z) z p.2 in
    record { first = p.0; second = q.0; on_i = p.1; on_j = q.1; on_k = q.2 }

pub k≢i : K ≡ I → ⊥
k≢i e = cc

pub j≢i : J ≡ I → ⊥
j≢i e = cc

pub k≢j : K ≡ J → ⊥
k≢j e = cc

pub i≢j : I ≡ J → ⊥
i≢j e = cc

pub i≢k : I ≡ K → ⊥
i≢k e = cc

pub j≢k : J ≡ K → ⊥
j≢k e = cc

kept : (r : Rules) (d : Space) (axis other : Axis) (x y : IVec) → IsSpace d → stepped r d axis x ≡ Ok y → (axis ≡ other → ⊥) → leaves other d x ≡ false → leaves other d y ≡ false
kept r d axis other x y s e apart f =
    elim (step_others r d axis other x y s e) [ inl same ↦ leaves_same other d x y same ∙ f | inr here ↦ absurd (apart here) ]

or_none : (a b c : Bool) → a ≡ false → b ≡ false → c ≡ false → (a || (b || c)) ≡ false
or_none a b c p q r = ap (λ v. v || (b || c)) p ∙ ap (λ v. v || c) q ∙ r

pub walks_end_inside : WalksEndInside
walks_end_inside r d x z s near fits e =
    let w = walk_of r d x z e in
    let near1 = walks_stay_near r d I x w.first s near w.on_i in
    let near2 = walks_stay_near r d J w.first w.second s near1 w.on_j in
    let i1 = ends_inside r d I x w.first s (near I) (AtMost-at I fits) w.on_i in
    let i2 = kept r d J I w.first w.second s w.on_j j≢i i1 in
    let i3 = kept r d K I w.second z s w.on_k k≢i i2 in
    let j2 = ends_inside r d J w.first w.second s (near1 J) (AtMost-at J fits) w.on_j in
    let j3 = kept r d K J w.second z s w.on_k k≢j j2 in
    let k3 = ends_inside r d K w.second z s (near2 K) (AtMost-at K fits) w.on_k in
    or_none (leaves I d z) (leaves J d z) (leaves K d z) i3 j3 k3

-- a walk that ends with a fixed value
answered_fits : (rule : Rule) (modulus : ℕ) (axis : Axis) (d : Space) (x : IVec) (e : ℤ) (v : ℕ) → IsBelow modulus rule → answered axis d x (edge_by rule e) ≡ Err v → v < modulus
answered_fits (Fixed w) modulus axis d x e v below h = let same : w ≡ v = cc in subst (λ n. n < modulus) same below
answered_fits Clamp modulus axis d x e v below h = absurd cc
answered_fits Reflect modulus axis d x e v below h = absurd cc

ok≢err : (x : IVec) (v : ℕ) → ◌≡◌ {A = Result IVec ℕ} (Ok x) (Err v) → ⊥
ok≢err x v e = cc

step_fits : (r : Rules) (d : Space) (axis : Axis) (x : IVec) (v : ℕ) → IsRules r → stepped r d axis x ≡ Err v → v < r.modulus
step_fits r d axis x v rules =
    cond_both (leaves axis d x) (answered axis d x (edge_of r axis (depth axis d x))) (Ok x) (λ o. o ≡ Err v → v < r.modulus)
    (λ t e. answered_fits (rule_on axis r.boundary) r.modulus axis d x (depth axis d x) v (rules.boundary axis) e)
    (λ f e. absurd (ok≢err x v e))

onward_err : (o : Result IVec ℕ) (next : IVec → Result IVec ℕ) (v : ℕ) → onward o next ≡ Err v → (o ≡ Err v) ⊎ ((y : IVec) × (next y ≡ Err v))
onward_err (Ok y) next v e = inr (y, e)
onward_err (Err w) next v e = inl e

pub fixed_values_fit : FixedValuesFit
fixed_values_fit r d x v rules e =
    elim (onward_err (stepped r d I x) (λ y. onward (stepped r d J y) (λ z. stepped r d K z)) v e) [
      | inl here ↦ step_fits r d I x v rules here
      | inr later ↦ elim (onward_err (stepped r d J later.0) (λ z. stepped r d K z) v later.1) [
        | inl here ↦ step_fits r d J later.0 v rules here
        | inr last ↦ step_fits r d K last.0 v rules last.1
      ]
    ]

-- the same of numbers that were read
pub read_depth : (axis : Axis) (d : Space) (x : IVec) (a n : ℤ) → a ≡ at axis x → n ≡ at axis d.size → pos 0 ≤ℤ a → depth axis d x ≡ (a -ℤ n) +ℤ pos 1
read_depth axis d x a n e f h =
    depth_high axis d x (subst (λ z. pos 0 ≤ℤ z) e h) ∙ ap (λ z. (z -ℤ at axis d.size) +ℤ pos 1) (sym e) ∙ ap (λ z. (a -ℤ z) +ℤ pos 1) (sym f)

pub read_over : (axis : Axis) (d : Space) (x : IVec) (a n : ℤ) → a ≡ at axis x → n ≡ at axis d.size → pos 0 ≤ℤ a → leaves axis d x ≡ true → n ≤ℤ a
read_over axis d x a n e f h t =
    elim (leaves_cases axis d x t) [ inl low ↦ omega (arith, ints, e, h, low) | inr high ↦ omega (arith, ints, e, f, high) ]

pub read_moved : (axis : Axis) (d : Space) (x : IVec) (a n inside : ℤ) → a ≡ at axis x → n ≡ at axis d.size → pos 0 ≤ℤ a → put axis x (n -ℤ inside) ≡ moved_in axis d x inside
read_moved axis d x a n inside e f h =
    ap (λ z. put axis x (z -ℤ inside)) f ∙ sym (moved_high axis d x inside (subst (λ z. pos 0 ≤ℤ z) e h))

-- the cells of the domain grown by the width
near_on : (r : Rules) (d : Space) (axis : Axis) (x : IVec) → (pos 0 -ℤ at axis r.width) ≤ℤ at axis x → at axis x ≤ℤ ((at axis d.size -ℤ pos 1) +ℤ at axis r.width) → IsNearOn r d axis x
near_on r d axis x low high t = elim (by_sign (at axis x)) [
  | inl below ↦ let e = depth_low axis d x below in omega (arith, ints, e, low)
  | inr above ↦ let e = depth_high axis d x above in omega (arith, ints, e, high)
]
  where
    by_sign : (z : ℤ) → (z <ℤ pos 0) ⊎ (pos 0 ≤ℤ z)
    by_sign z = by_lt_z z (pos 0) (λ h. inl h) (λ h. inr h)

pub grown_cells_are_near : GrownCellsAreNear
grown_cells_are_near r d x h I = near_on r d I x h.low.i h.high.i
grown_cells_are_near r d x h J = near_on r d J x h.low.j h.high.j
grown_cells_are_near r d x h K = near_on r d K x h.low.k h.high.k

-- the words of the geometry
nearest : (axis : Axis) (d : Space) (x : IVec) → (pos 1 ≤ℤ at axis d.size) → (at axis x <ℤ pos 0) ⊎ (at axis d.size ≤ℤ at axis x) → moved_in axis d x (pos 1) ≡ put axis x (clamped (at axis d.size) (at axis x))
nearest axis d x wide (inl low) =
    let same : pos 1 -ℤ pos 1 ≡ clamped (at axis d.size) (at axis x) = omega (arith, ints, clamps, wide, low) in
    moved_low axis d x (pos 1) low ∙ ap (put axis x) same
nearest axis d x wide (inr high) =
    let same : at axis d.size -ℤ pos 1 ≡ clamped (at axis d.size) (at axis x) = omega (arith, ints, clamps, wide, high) in
    moved_high axis d x (pos 1) (omega (arith, ints, wide, high)) ∙ ap (put axis x) same

pub clamp_moves_to_the_nearest : ClampMovesToTheNearest
clamp_moves_to_the_nearest axis d x s t = nearest axis d x (size_on axis d s) (leaves_cases axis d x t)

mirror_low : (n x : ℤ) → x <ℤ pos 0 → mirrored n x ≡ negsuc 0 -ℤ x
mirror_low n x h = cond-true (int_lt x (pos 0)) (negsuc 0 -ℤ x) (cond (int_lt x n) x (((n +ℤ n) -ℤ pos 1) -ℤ x)) (is_below_zero x h)

mirror_high : (n x : ℤ) → pos 0 ≤ℤ x → n ≤ℤ x → mirrored n x ≡ ((n +ℤ n) -ℤ pos 1) -ℤ x
mirror_high n x h g =
    let over : int_lt x n ≡ false = grind (arith, ints) in
    cond-false (int_lt x (pos 0)) (negsuc 0 -ℤ x) (cond (int_lt x n) x (((n +ℤ n) -ℤ pos 1) -ℤ x)) (not_below_zero x h)
    ∙ cond-false (int_lt x n) x (((n +ℤ n) -ℤ pos 1) -ℤ x) over

mirror : (axis : Axis) (d : Space) (x : IVec) → (pos 1 ≤ℤ at axis d.size) → (at axis x <ℤ pos 0) ⊎ (at axis d.size ≤ℤ at axis x) → moved_in axis d x (depth axis d x) ≡ put axis x (mirrored (at axis d.size) (at axis x))
mirror axis d x wide (inl low) =
    let far = depth_low axis d x low in
    let image = mirror_low (at axis d.size) (at axis x) low in
    let same : depth axis d x -ℤ pos 1 ≡ mirrored (at axis d.size) (at axis x) = omega (arith, ints, far, image) in
    moved_low axis d x (depth axis d x) low ∙ ap (put axis x) same
mirror axis d x wide (inr high) =
    let above : pos 0 ≤ℤ at axis x = omega (arith, ints, wide, high) in
    let far = depth_high axis d x above in
    let image = mirror_high (at axis d.size) (at axis x) above high in
    let same : at axis d.size -ℤ depth axis d x ≡ mirrored (at axis d.size) (at axis x) = omega (arith, ints, far, image) in
    moved_high axis d x (depth axis d x) above ∙ ap (put axis x) same

pub reflect_mirrors : ReflectMirrors
reflect_mirrors axis d x s t = mirror axis d x (size_on axis d s) (leaves_cases axis d x t)

-- a cell inside all borders
stays_on : (r : Rules) (d : Space) (axis : Axis) (x : IVec) → leaves axis d x ≡ false → stepped r d axis x ≡ Ok x
stays_on r d axis x f = cond-false (leaves axis d x) (answered axis d x (edge_of r axis (depth axis d x))) (Ok x) f

none_of : (a b c : Bool) → (a || (b || c)) ≡ false → (a ≡ false) × (b ≡ false) × (c ≡ false)
none_of true b c e = absurd (false≢true (sym e))
none_of false true c e = absurd (false≢true (sym e))
none_of false false c e = (refl, refl, e)

pub walks_stay_inside : WalksStayInside
walks_stay_inside r d x f =
    let none = none_of (leaves I d x) (leaves J d x) (leaves K d x) f in
    ap (λ o. onward o (λ y. onward (stepped r d J y) (λ z. stepped r d K z))) (stays_on r d I x none.0)
    ∙ ap (λ o. onward o (λ z. stepped r d K z)) (stays_on r d J x none.1)
    ∙ stays_on r d K x none.2

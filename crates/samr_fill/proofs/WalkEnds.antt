-- Walks of cells about a box end about the box.
use Rattle.std.proofs.Common.{◌≡◌, ◌⊎◌, ℕ, refl, sym, ap, ◌∙◌, subst, inl, inr, arith, length}
use Rattle.std.proofs.lemmas.Int.{ints}
use Rattle.std.proofs.lemmas.Bool.{false≢true, or_left, or_right, or_cases, and_from}
use Rattle.std.specs.Prelude.{ℤ, pos, ◌+ℤ◌, ◌-ℤ◌, ◌≤ℤ◌, ◌<ℤ◌, int_lt, Bool, true, false, not, ◌&&◌, ◌||◌, Ok, List, [], ◌∷◌, map, ◌==◌, if◌then◌else◌}
use Rattle.samr_box.specs.declared.vector.Axis.{Axis}
use Rattle.samr_box.specs.declared.vector.Axis.TheVariants.{I, J, K}
use Rattle.samr_box.specs.declared.vector.IVec.{IVec}
use Rattle.samr_box.specs.Vector.{at, AtMost}
use Rattle.samr_box.specs.Corners.{Corners, Holds, grown}
use Rattle.samr_box.specs.Space.{Space, IsSpace, whole, flag, leaves, wrapped, is_outside}
use Rattle.samr_box.specs.Lists.{Member}
use Rattle.samr_box.proofs.Vectors.{at-put}
use Rattle.samr_box.proofs.CellSets.{Holds-whole}
use Rattle.samr_box.proofs.Wraps.{IsRemainder-wrapped, wrapped-physical}
use Rattle.samr_level.specs.Regions.{Area, boxes_of, IsInside}
use Rattle.samr_ops.specs.declared.rules.Rules.{Rules}
use Rattle.samr_ops.specs.Walks.{depth, moved_in, stepped, onward, walked}
use Rattle.samr_ops.proofs.WalkLaws.{leaves_cases, depth_low, depth_high, moved_low, moved_high, size_on, Moves, step_of, others_stay, onward_ok, Walked, i≢j, i≢k, j≢i, j≢k, k≢i, k≢j}

-- on one axis: a box of the frame, and a cell about it
pub record IsAbout (d : Space) (axis : Axis) (lo hi g : ℤ) (x : IVec) : Type 0 where
  pub start : pos 0 ≤ℤ lo
  pub order : lo ≤ℤ hi
  pub end : hi <ℤ at axis d.size
  pub low : (lo -ℤ g) ≤ℤ at axis x
  pub high : at axis x ≤ℤ (hi +ℤ g)

about_same : (d : Space) (axis : Axis) (lo hi g : ℤ) (x y : IVec) → at axis y ≡ at axis x → IsAbout d axis lo hi g x → IsAbout d axis lo hi g y
about_same d axis lo hi g x y e a = record {
  start = a.start;
  order = a.order;
  end = a.end;
  low = subst (λ (z : ℤ). (lo -ℤ g) ≤ℤ z) (sym e) a.low;
  high = subst (λ (z : ℤ). z ≤ℤ (hi +ℤ g)) (sym e) a.high;
}

about_step : (r : Rules) (d : Space) (axis : Axis) (lo hi g : ℤ) (x y : IVec) → IsSpace d → stepped r d axis x ≡ Ok y → IsAbout d axis lo hi g x → IsAbout d axis lo hi g y
about_step r d axis lo hi g x y s e a =
    elim (step_of r d axis x y s e) [
      | inl stays ↦ about_same d axis lo hi g x y (ap (at axis) stays.1) a
      | inr m ↦ moved m (leaves_cases axis d x m.out)
    ]
  where
    moved : Moves d axis x y → (at axis x <ℤ pos 0) ⊎ (at axis d.size ≤ℤ at axis x) → IsAbout d axis lo hi g y
    moved m (inl below) =
        let place : at axis y ≡ m.inside -ℤ pos 1 = ap (at axis) (m.is ∙ moved_low axis d x m.inside below) ∙ at-put axis x (m.inside -ℤ pos 1) in
        let far = depth_low axis d x below in
        record {
          start = a.start;
          order = a.order;
          end = a.end;
          low = omega (arith, ints, place, m.low, a.low, below);
          high = omega (arith, ints, place, far, m.high, a.low, a.order, a.start);
        }
    moved m (inr above) =
        let wide = size_on axis d s in
        let up : pos 0 ≤ℤ at axis x = omega (arith, ints, wide, above) in
        let place : at axis y ≡ at axis d.size -ℤ m.inside = ap (at axis) (m.is ∙ moved_high axis d x m.inside up) ∙ at-put axis x (at axis d.size -ℤ m.inside) in
        let far = depth_high axis d x up in
        record {
          start = a.start;
          order = a.order;
          end = a.end;
          low = omega (arith, ints, place, far, m.high, a.high, a.order, a.end);
          high = omega (arith, ints, place, m.low, a.high, above);
        }

walk_of : (r : Rules) (d : Space) (x z : IVec) → walked r d x ≡ Ok z → Walked r d x z
walk_of r d x z e =
    let p = onward_ok (stepped r d I x) (λ y. onward (stepped r d J y) (λ z. stepped r d K z)) z e in
    let q = onward_ok (stepped r d J p.0) (λ z. stepped r d K z) z p.2 in
    record { first = p.0; second = q.0; on_i = p.1; on_j = q.1; on_k = q.2 }

pub walk_stays : (r : Rules) (d : Space) (b : Corners) (g x z : IVec) → IsSpace d → Holds (whole d) b.lo → Holds (whole d) b.hi → AtMost b.lo b.hi
    → Holds (grown b g) x → walked r d x ≡ Ok z → Holds (grown b g) z
walk_stays r d b g x z s lo hi order h e =
    let w = walk_of r d x z e in
    let ai : IsAbout d I b.lo.i b.hi.i g.i x = record { start = lo.low.i; order = order.i; end = omega (arith, ints, hi.high.i); low = h.low.i; high = h.high.i } in
    let aj : IsAbout d J b.lo.j b.hi.j g.j x = record { start = lo.low.j; order = order.j; end = omega (arith, ints, hi.high.j); low = h.low.j; high = h.high.j } in
    let ak : IsAbout d K b.lo.k b.hi.k g.k x = record { start = lo.low.k; order = order.k; end = omega (arith, ints, hi.high.k); low = h.low.k; high = h.high.k } in
    let i1 = about_step r d I b.lo.i b.hi.i g.i x w.first s w.on_i ai in
    let i2 = about_same d I b.lo.i b.hi.i g.i w.first w.second (others_stay r d J I w.first w.second j≢i w.on_j) i1 in
    let i3 = about_same d I b.lo.i b.hi.i g.i w.second z (others_stay r d K I w.second z k≢i w.on_k) i2 in
    let j1 = about_same d J b.lo.j b.hi.j g.j x w.first (others_stay r d I J x w.first i≢j w.on_i) aj in
    let j2 = about_step r d J b.lo.j b.hi.j g.j w.first w.second s w.on_j j1 in
    let j3 = about_same d J b.lo.j b.hi.j g.j w.second z (others_stay r d K J w.second z k≢j w.on_k) j2 in
    let k1 = about_same d K b.lo.k b.hi.k g.k x w.first (others_stay r d I K x w.first i≢k w.on_i) ak in
    let k2 = about_same d K b.lo.k b.hi.k g.k w.first w.second (others_stay r d J K w.first w.second j≢k w.on_j) k1 in
    let k3 = about_step r d K b.lo.k b.hi.k g.k w.second z s w.on_k k2 in
    record { low = record { k = k3.low; j = j3.low; i = i3.low }; high = record { k = k3.high; j = j3.high; i = i3.high } }

-- a cell that does not leave the frame wraps into it
none_of : (a b c : Bool) → (a || (b || c)) ≡ false → (a ≡ false) × (b ≡ false) × (c ≡ false)
none_of true b c e = absurd (false≢true (sym e))
none_of false true c e = absurd (false≢true (sym e))
none_of false false c e = (refl, refl, e)

leaves_none : (d : Space) (x : IVec) → is_outside d x ≡ false → (axis : Axis) → leaves axis d x ≡ false
leaves_none d x f I = (none_of (leaves I d x) (leaves J d x) (leaves K d x) f).0
leaves_none d x f J = (none_of (leaves I d x) (leaves J d x) (leaves K d x) f).1
leaves_none d x f K = (none_of (leaves I d x) (leaves J d x) (leaves K d x) f).2

pub wraps_inside : (d : Space) (x : IVec) → IsSpace d → is_outside d x ≡ false → Holds (whole d) (wrapped d x)
wraps_inside d x s f = (Holds-whole d (wrapped d x)).1 (λ axis. on axis (flag axis d.periodic) refl)
  where
    between : (axis : Axis) → (not (flag axis d.periodic) && (int_lt (at axis x) (pos 0) || not (int_lt (at axis x) (at axis d.size)))) ≡ false → flag axis d.periodic ≡ false
        → (pos 0 ≤ℤ at axis x) × (at axis x <ℤ at axis d.size)
    between axis t p =
        let e : (int_lt (at axis x) (pos 0) || not (int_lt (at axis x) (at axis d.size))) ≡ false =
        ap (λ (v : Bool). not v && (int_lt (at axis x) (pos 0) || not (int_lt (at axis x) (at axis d.size)))) (sym p) ∙ t in
        let parts = neither (int_lt (at axis x) (pos 0)) (int_lt (at axis x) (at axis d.size)) e in
        let low = parts.0 in
        let high = parts.1 in
        (grind (arith, ints, low), grind (arith, ints, high))
      where
        neither : (a b : Bool) → (a || not b) ≡ false → (a ≡ false) × (b ≡ true)
        neither true b e = absurd (false≢true (sym e))
        neither false true e = (refl, refl)
        neither false false e = absurd (false≢true (sym e))

    on : (axis : Axis) (p : Bool) → flag axis d.periodic ≡ p → (pos 0 ≤ℤ at axis (wrapped d x)) × (at axis (wrapped d x) <ℤ at axis d.size)
    on axis true p = let q = IsRemainder-wrapped d x s axis p in (q.low, q.high)
    on axis false p =
        let e = wrapped-physical d x axis p in
        let q = between axis (leaves_none d x f axis) p in
        (subst (λ (z : ℤ). pos 0 ≤ℤ z) (sym e) q.0, subst (λ (z : ℤ). z <ℤ at axis d.size) (sym e) q.1)

-- in a domain of no parts such a cell lies in the domain
pub plain_inside : (a : Area) (x : IVec) → length a.parts ≡ 0 → Holds (whole a.frame) (wrapped a.frame x) → IsInside a x
plain_inside a x e h =
    let one : boxes_of a ≡ whole a.frame ∷ [] = ap (λ (n : ℕ). if n == 0 then whole a.frame ∷ [] else a.parts) e in
    (whole a.frame, subst (λ (l : List Corners). Member (whole a.frame) l) (sym one) (inl refl), h)

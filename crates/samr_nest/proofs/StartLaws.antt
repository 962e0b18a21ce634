-- The cells with which the cut begins, and its first lists in a whole frame and in parts.
use Rattle.std.proofs.Common.{◌≡◌, ◌<◌, refl, sym, ap, ◌∙◌, subst, inl, inr, arith, length}
use Rattle.std.proofs.lemmas.Int.{ints, clamps}
use Rattle.std.proofs.lemmas.Bool.{and_parts, cond-false}
use Rattle.std.specs.Prelude.{ℤ, pos, ◌-ℤ◌, ◌≤ℤ◌, Bool, true, false, cond, IsTrue, List, [], ◌∷◌, Option, Some, None, ◌==◌}
use Rattle.std.specs.List.{filter_map, cons_option}
use Rattle.samr_box.specs.declared.vector.Axis.{Axis}
use Rattle.samr_box.specs.declared.vector.Axis.TheVariants.{I, J, K}
use Rattle.samr_box.specs.declared.vector.IVec.{IVec}
use Rattle.samr_box.specs.Vector.{at, AtMost, at_most}
use Rattle.samr_box.specs.Corners.{Corners, Holds, Meet, holds_box, met, meets, common}
use Rattle.samr_box.specs.Space.{Space, IsSpace, whole, flag, wrapped, wrapped_on}
use Rattle.samr_box.specs.Lists.{Member}
use Rattle.samr_box.proofs.Vectors.{same_cell}
use Rattle.samr_box.proofs.Totals.{same_corners}
use Rattle.samr_box.proofs.CellSets.{AtMost-test, meets-from}
use Rattle.samr_box.proofs.Wraps.{IsRemainder-rem}
use Rattle.samr_level.specs.Regions.{Area, boxes_of}
use Rattle.samr_nest.specs.Starts.{stretched, needed, inner, clipped}
use Rattle.samr_nest.specs.Nested.{IsPlain}

-- on one axis
record IsIn (lo hi y : ℤ) : Type 0 where
  low : lo ≤ℤ y
  high : y ≤ℤ hi

into_stretched : (periodic : Bool) (n lo hi first last y : ℤ) → IsIn lo hi (wrapped_on periodic n y) → IsIn first last y
    → IsIn (cond periodic first lo) (cond periodic last hi) y
into_stretched true n lo hi first last y p q = q
into_stretched false n lo hi first last y p q = p

out_of_stretched : (periodic : Bool) (n lo hi first last y : ℤ) → pos 1 ≤ℤ n → (periodic ≡ true → (lo ≡ pos 0) × (hi ≡ n -ℤ pos 1))
    → IsIn (cond periodic first lo) (cond periodic last hi) y → IsIn lo hi (wrapped_on periodic n y)
out_of_stretched true n lo hi first last y p spans h =
    let s = spans refl in
    let e = s.0 in
    let f = s.1 in
    let r = IsRemainder-rem n y (omega (arith, ints)) in
    record { low = omega (arith, ints, r.low, e); high = omega (arith, ints, r.high, f) }
out_of_stretched false n lo hi first last y p spans h = h

-- a cell of a box is in a stretched box of the domain where the wrapped cell is in the box of the domain
pub stretched_has : (d : Space) (b p : Corners) (y : IVec) → Holds b y → Holds p (wrapped d y) → Holds (stretched d b p) y
stretched_has d b p y h w =
    let k = into_stretched d.periodic.k d.size.k p.lo.k p.hi.k b.lo.k b.hi.k y.k (record { low = w.low.k; high = w.high.k }) (record { low = h.low.k; high = h.high.k }) in
    let j = into_stretched d.periodic.j d.size.j p.lo.j p.hi.j b.lo.j b.hi.j y.j (record { low = w.low.j; high = w.high.j }) (record { low = h.low.j; high = h.high.j }) in
    let i = into_stretched d.periodic.i d.size.i p.lo.i p.hi.i b.lo.i b.hi.i y.i (record { low = w.low.i; high = w.high.i }) (record { low = h.low.i; high = h.high.i }) in
    record { low = record { k = k.low; j = j.low; i = i.low }; high = record { k = k.high; j = j.high; i = i.high } }

-- and the other way round, where the box of the domain reaches across periodic axes
abbrev pub Spans : Space → Corners → Type 0
Spans d p = (axis : Axis) → flag axis d.periodic ≡ true → (at axis p.lo ≡ pos 0) × (at axis p.hi ≡ at axis d.size -ℤ pos 1)

pub has_stretched : (d : Space) (b p : Corners) (y : IVec) → IsSpace d → Spans d p → Holds (stretched d b p) y → Holds p (wrapped d y)
has_stretched d b p y s spans h =
    let k = out_of_stretched d.periodic.k d.size.k p.lo.k p.hi.k b.lo.k b.hi.k y.k s.low.k (spans K) (record { low = h.low.k; high = h.high.k }) in
    let j = out_of_stretched d.periodic.j d.size.j p.lo.j p.hi.j b.lo.j b.hi.j y.j s.low.j (spans J) (record { low = h.low.j; high = h.high.j }) in
    let i = out_of_stretched d.periodic.i d.size.i p.lo.i p.hi.i b.lo.i b.hi.i y.i s.low.i (spans I) (record { low = h.low.i; high = h.high.i }) in
    record { low = record { k = k.low; j = j.low; i = i.low }; high = record { k = k.high; j = j.high; i = i.high } }

whole_spans : (d : Space) → Spans d (whole d)
whole_spans d I e = (refl, refl)
whole_spans d J e = (refl, refl)
whole_spans d K e = (refl, refl)

only_whole : (frame : Space) (parts : List Corners) (p : Corners) → parts ≡ []
    → (let a : Area = record { frame = frame; parts = parts } in Member p (boxes_of a)) → p ≡ whole frame
only_whole frame [] p e (inl same) = same
only_whole frame [] p e (inr none) = absurd none
only_whole frame (q ∷ qs) p e m = absurd (differ e)
  where
    differ : q ∷ qs ≡ [] → ⊥
    differ e = cc

pub boxes_span : (a : Area) (p : Corners) → IsPlain a → Member p (boxes_of a) → Spans a.frame p
boxes_span a p plain m axis e =
    let same = only_whole a.frame a.parts p (plain axis e) m in
    let P : Corners → Type 0 = λ v. (at axis v.lo ≡ pos 0) × (at axis v.hi ≡ at axis a.frame.size -ℤ pos 1) in
    subst P (sym same) (whole_spans a.frame axis e)

-- the whole frame
frame_by : (k j i : Bool) (size : IVec) (b : Corners)
    → (let d : Space = record { size = size; periodic = record { k = k; j = j; i = i } } in common (stretched d b (whole d)) b ≡ clipped d b)
frame_by true true true size b = same_corners (same_cell (omega (arith, ints, clamps)) (omega (arith, ints, clamps)) (omega (arith, ints, clamps))) (same_cell (omega (arith, ints, clamps)) (omega (arith, ints, clamps)) (omega (arith, ints, clamps)))
frame_by true true false size b = same_corners (same_cell (omega (arith, ints, clamps)) (omega (arith, ints, clamps)) (omega (arith, ints, clamps))) (same_cell (omega (arith, ints, clamps)) (omega (arith, ints, clamps)) (omega (arith, ints, clamps)))
frame_by true false true size b = same_corners (same_cell (omega (arith, ints, clamps)) (omega (arith, ints, clamps)) (omega (arith, ints, clamps))) (same_cell (omega (arith, ints, clamps)) (omega (arith, ints, clamps)) (omega (arith, ints, clamps)))
frame_by true false false size b = same_corners (same_cell (omega (arith, ints, clamps)) (omega (arith, ints, clamps)) (omega (arith, ints, clamps))) (same_cell (omega (arith, ints, clamps)) (omega (arith, ints, clamps)) (omega (arith, ints, clamps)))
frame_by false true true size b = same_corners (same_cell (omega (arith, ints, clamps)) (omega (arith, ints, clamps)) (omega (arith, ints, clamps))) (same_cell (omega (arith, ints, clamps)) (omega (arith, ints, clamps)) (omega (arith, ints, clamps)))
frame_by false true false size b = same_corners (same_cell (omega (arith, ints, clamps)) (omega (arith, ints, clamps)) (omega (arith, ints, clamps))) (same_cell (omega (arith, ints, clamps)) (omega (arith, ints, clamps)) (omega (arith, ints, clamps)))
frame_by false false true size b = same_corners (same_cell (omega (arith, ints, clamps)) (omega (arith, ints, clamps)) (omega (arith, ints, clamps))) (same_cell (omega (arith, ints, clamps)) (omega (arith, ints, clamps)) (omega (arith, ints, clamps)))
frame_by false false false size b = same_corners (same_cell (omega (arith, ints, clamps)) (omega (arith, ints, clamps)) (omega (arith, ints, clamps))) (same_cell (omega (arith, ints, clamps)) (omega (arith, ints, clamps)) (omega (arith, ints, clamps)))

picked_low : (periodic : Bool) (x y z : ℤ) → x ≤ℤ z → y ≤ℤ z → cond periodic x y ≤ℤ z
picked_low true x y z p q = p
picked_low false x y z p q = q

picked_high : (periodic : Bool) (x y z : ℤ) → z ≤ℤ x → z ≤ℤ y → z ≤ℤ cond periodic x y
picked_high true x y z p q = p
picked_high false x y z p q = q

Meet-stretched : (d : Space) (b : Corners) → AtMost b.lo b.hi → Meet b (whole d) → Meet (stretched d b (whole d)) b
Meet-stretched d b full m = record {
  low = record {
    k = picked_low d.periodic.k b.lo.k (pos 0) b.hi.k full.k m.high.k;
    j = picked_low d.periodic.j b.lo.j (pos 0) b.hi.j full.j m.high.j;
    i = picked_low d.periodic.i b.lo.i (pos 0) b.hi.i full.i m.high.i;
  };
  high = record {
    k = picked_high d.periodic.k b.hi.k (d.size.k -ℤ pos 1) b.lo.k full.k m.low.k;
    j = picked_high d.periodic.j b.hi.j (d.size.j -ℤ pos 1) b.lo.j full.j m.low.j;
    i = picked_high d.periodic.i b.hi.i (d.size.i -ℤ pos 1) b.lo.i full.i m.low.i;
  };
}

single : (a b c : Corners) → meets a b ≡ true → common a b ≡ c → cons_option (met a b) [] ≡ c ∷ []
single a b c t e =
    ap (λ (v : Bool). cons_option (cond v (Some (common a b)) None) []) t ∙ ap (λ (v : Corners). v ∷ []) e

common_inside : (w c : Corners) → AtMost w.lo c.lo → AtMost c.hi w.hi → common w c ≡ c
common_inside w c low high =
    same_corners
    (same_cell (omega (arith, ints, clamps, low.k)) (omega (arith, ints, clamps, low.j)) (omega (arith, ints, clamps, low.i)))
    (same_cell (omega (arith, ints, clamps, high.k)) (omega (arith, ints, clamps, high.j)) (omega (arith, ints, clamps, high.i)))

pub frame_starts : (d : Space) (b c : Corners) → AtMost b.lo b.hi → Meet b (whole d) → AtMost c.lo c.hi → IsTrue (holds_box (whole d) c)
    → (let a : Area = record { frame = d; parts = [] } in (needed a b ≡ clipped d b ∷ []) × (inner a c ≡ c ∷ []))
frame_starts d b c full m whole_c inside =
    let p = and_parts (at_most (whole d).lo c.lo) (at_most c.hi (whole d).hi) inside in
    let low = AtMost-test {a = (whole d).lo} {b = c.lo} p.0 in
    let high = AtMost-test {a = c.hi} {b = (whole d).hi} p.1 in
    let together : Meet (whole d) c = record {
      low = record { k = omega (arith, ints, low.k, whole_c.k); j = omega (arith, ints, low.j, whole_c.j); i = omega (arith, ints, low.i, whole_c.i) };
      high = record { k = omega (arith, ints, high.k, whole_c.k); j = omega (arith, ints, high.j, whole_c.j); i = omega (arith, ints, high.i, whole_c.i) };
    } in (
      single (stretched d b (whole d)) b (clipped d b)
          (meets-from {a = stretched d b (whole d)} {b = b} (Meet-stretched d b full m))
          (frame_by d.periodic.k d.periodic.j d.periodic.i d.size b),
      single (whole d) c c (meets-from {a = whole d} {b = c} together) (common_inside (whole d) c low high),
    )

-- parts
some_boxes : (frame : Space) (parts : List Corners) → 0 < length parts
    → (let a : Area = record { frame = frame; parts = parts } in boxes_of a ≡ parts)
some_boxes frame [] some = absurd (omega (arith, some))
some_boxes frame (p ∷ ps) some =
    let no : (length (p ∷ ps) == 0) ≡ false = grind arith in
    cond-false (length (p ∷ ps) == 0) (whole frame ∷ []) (p ∷ ps) no

filter_map_same : {X Y : Type 0} (f h : X → Option Y) (xs : List X) → ((x : X) → f x ≡ h x) → filter_map f xs ≡ filter_map h xs
filter_map_same f h [] same = refl
filter_map_same {X} {Y} f h (x ∷ xs) same =
    ap (λ (o : Option Y). cons_option o (filter_map f xs)) (same x) ∙ ap (λ (l : List Y). cons_option (h x) l) (filter_map_same f h xs same)

stretched_same : (d : Space) (b p : Corners) → ((axis : Axis) → flag axis d.periodic ≡ false) → stretched d b p ≡ p
stretched_same d b p none =
    same_corners
    (same_cell (cond-false d.periodic.k b.lo.k p.lo.k (none K)) (cond-false d.periodic.j b.lo.j p.lo.j (none J)) (cond-false d.periodic.i b.lo.i p.lo.i (none I)))
    (same_cell (cond-false d.periodic.k b.hi.k p.hi.k (none K)) (cond-false d.periodic.j b.hi.j p.hi.j (none J)) (cond-false d.periodic.i b.hi.i p.hi.i (none I)))

pub parts_starts : (a : Area) (b c : Corners) → 0 < length a.parts → ((axis : Axis) → flag axis a.frame.periodic ≡ false)
    → (needed a b ≡ filter_map (λ p. met p b) a.parts) × (inner a c ≡ filter_map (λ p. met p c) a.parts)
parts_starts a b c some none =
    let boxes : boxes_of a ≡ a.parts = some_boxes a.frame a.parts some in (
      ap (λ (l : List Corners). filter_map (λ p. met (stretched a.frame b p) b) l) boxes
          ∙ filter_map_same (λ p. met (stretched a.frame b p) b) (λ p. met p b) a.parts
          (λ p. ap (λ (v : Corners). met v b) (stretched_same a.frame b p none)),
      ap (λ (l : List Corners). filter_map (λ p. met p c) l) boxes,
    )

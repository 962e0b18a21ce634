-- Levels of an accepted problem have what they rest on.
use Rattle.std.proofs.Common.{◌≡◌, ℕ, ◌*◌, ◌<◌, ◌≤◌, ◌^◌, Bool, true, false, cond, ◌==◌, ℤ, pos, ◌+ℤ◌, ◌-ℤ◌, ◌≤ℤ◌, unsigned_abs, [], ◌∷◌, mul_assoc as nat_mul_assoc, mul_left_comm, sym, ap, subst, ◌∙◌, inl, inr, arith, nat_le}
use Rattle.std.specs.Prelude.{◌||◌, negsuc}
use Rattle.std.proofs.Math.Nat.{mul-le-mul}
use Rattle.std.proofs.lemmas.Bool.{and_parts, or_cases, ltb-true, eqb-true}
use Rattle.std.proofs.lemmas.Bool.Decides.{nat_tests}
use Rattle.std.proofs.lemmas.Int.{ints}
use Rattle.samr_box.specs.declared.vector.Axis.{Axis}
use Rattle.samr_box.specs.declared.vector.Axis.TheVariants.{I, J, K}
use Rattle.samr_box.specs.declared.vector.IVec.{IVec}
use Rattle.samr_box.specs.Vector.{at, put, alike, AtMost, Within}
use Rattle.samr_box.specs.Corners.{IsBox, grown, span, cells_of}
use Rattle.samr_box.specs.Space.{whole}
use Rattle.samr_box.specs.Lists.{Member}
use Rattle.samr_box.proofs.Members.{Member-from_flat_map}
use Rattle.samr_ops.specs.declared.rules.Rule.{Rule}
use Rattle.samr_ops.specs.declared.rules.Rule.TheVariants.{Fixed, Clamp, Reflect}
use Rattle.samr_ops.specs.declared.rules.Border.{Border}
use Rattle.samr_ops.specs.Rules.{IsBelow, rule_on}
use Rattle.samr_values.specs.Updating.{faces, real_axes}
use Rattle.samr_problem.specs.declared.field.Field.{Field}
use Rattle.samr_problem.specs.Fields.{Fields}
use Rattle.samr_problem.specs.Values.{is_within, axes_within}
use Rattle.samr_problem.specs.Problems.{IsProblem, is_field, is_below, is_border, is_init}
use Rattle.samr_mesh.specs.Domains.{step_of, frame_at}
use Rattle.samr_mesh.proofs.Grounding.{within_of, step_ratio, step_is, region_plain, domain}
use Rattle.samr_mesh.proofs.Regions.{members_pass, has_level0}
use Rattle.samr_mesh.proofs.Sourced.{ghost_width, nest_low}
use Rattle.samr_hierarchy.specs.Scales.{number_of}
use Rattle.samr_hierarchy.specs.Grounds.{IsGround, IsFieldOf, HasRoom, ProblemsHaveGround}

nat_le_true : (a b : ℕ) → nat_le a b ≡ true → a ≤ b
nat_le_true a b h = grind (arith, nat_tests, h)

swapped : (a b c d : ℕ) → a * b * (c * d) ≡ a * c * (b * d)
swapped a b c d = nat_mul_assoc a b (c * d) ∙ ap (λ (v : ℕ). a * v) (mul_left_comm b c d) ∙ sym (nat_mul_assoc a c (b * d))

-- a grown box of a frame has at most 17 planes for each of the frame's
grown_span : (lo hi g s : ℤ) → pos 0 ≤ℤ lo → lo ≤ℤ hi → hi ≤ℤ (s -ℤ pos 1) → pos 0 ≤ℤ g → g ≤ℤ pos 8
    → unsigned_abs (((hi +ℤ g) -ℤ (lo -ℤ g)) +ℤ pos 1) ≤ unsigned_abs (((s -ℤ pos 1) -ℤ pos 0) +ℤ pos 1) * 17
grown_span lo hi g s low order high some few = omega (arith, ints)

module _ (p : Fields) (is : IsProblem p) where
  room_of : HasRoom p
  room_of l b g less low narrow order lo hi =
      let d = domain p is l (omega (arith, less)) in
      let h = d.small in
      let few = d.few in
      let size = (frame_at p l).size in
      let w = whole (frame_at p l) in
      let i : span I (grown b g) ≤ span I w * 17 = grown_span b.lo.i b.hi.i g.i size.i lo.low.i order.i hi.high.i low.i narrow.i in
      let j : span J (grown b g) ≤ span J w * 17 = grown_span b.lo.j b.hi.j g.j size.j lo.low.j order.j hi.high.j low.j narrow.j in
      let k : span K (grown b g) ≤ span K w * 17 = grown_span b.lo.k b.hi.k g.k size.k lo.low.k order.k hi.high.k low.k narrow.k in
      let all = mul-le-mul (mul-le-mul i j) k in
      let same = rearranged (span I w) (span J w) (span K w) in
      let ll = lo.low in
      let hh = hi.high in
      let box : IsBox (grown b g) = record {
        low = record { k = omega (arith, ints, ll.k, narrow.k); j = omega (arith, ints, ll.j, narrow.j); i = omega (arith, ints, ll.i, narrow.i) };
        order = record { k = omega (arith, ints, order.k, low.k); j = omega (arith, ints, order.j, low.j); i = omega (arith, ints, order.i, low.i) };
        high = record { k = omega (arith, ints, hh.k, h.k, narrow.k); j = omega (arith, ints, hh.j, h.j, narrow.j); i = omega (arith, ints, hh.i, h.i, narrow.i) };
      } in
      let count : cells_of (grown b g) < 2 ^ 62 = omega (arith, all, few, same) in
      (box, count)
    where
      rearranged : (a b c : ℕ) → a * 17 * (b * 17) * (c * 17) ≡ a * b * c * 4913
      rearranged a b c = ap (λ (v : ℕ). v * (c * 17)) (swapped a 17 b 17) ∙ swapped (a * b) 289 c 17

  below_of : (m : ℕ) (r : Rule) → 2 ≤ m → is_below m r ≡ true → IsBelow m r × (number_of r < m)
  below_of m (Fixed v) two h = let less = ltb-true v m h in (less, less)
  below_of m Clamp two h = (tt, omega (arith, two))
  below_of m Reflect two h = (tt, omega (arith, two))

  -- the cells at the faces of a cell lie about it
  beside : (g x : IVec) (axis : Axis) (d : ℤ) → AtMost (alike (pos 0)) g → pos 1 ≤ℤ at axis g → negsuc 0 ≤ℤ d → d ≤ℤ pos 1 → Within g x (put axis x (at axis x +ℤ d))
  beside g x I d low one below above = record {
    low = record { k = omega (arith, ints, low.k); j = omega (arith, ints, low.j); i = omega (arith, ints) };
    high = record { k = omega (arith, ints, low.k); j = omega (arith, ints, low.j); i = omega (arith, ints) };
  }
  beside g x J d low one below above = record {
    low = record { k = omega (arith, ints, low.k); j = omega (arith, ints); i = omega (arith, ints, low.i) };
    high = record { k = omega (arith, ints, low.k); j = omega (arith, ints); i = omega (arith, ints, low.i) };
  }
  beside g x K d low one below above = record {
    low = record { k = omega (arith, ints); j = omega (arith, ints, low.j); i = omega (arith, ints, low.i) };
    high = record { k = omega (arith, ints); j = omega (arith, ints, low.j); i = omega (arith, ints, low.i) };
  }

  back_one : (z : ℤ) → z -ℤ pos 1 ≡ z +ℤ negsuc 0
  back_one z = omega (arith, ints)

  faces_about : (g x y : IVec) → AtMost (alike (pos 0)) g → ((axis : Axis) → Member axis (real_axes p.dim) → pos 1 ≤ℤ at axis g) → Member y (faces p.dim x) → Within g x y
  faces_about g x y low one m =
      let r = Member-from_flat_map (λ (axis : Axis). put axis x (at axis x -ℤ pos 1) ∷ put axis x (at axis x +ℤ pos 1) ∷ []) y (real_axes p.dim) m in
      by r.0 (one r.0 r.1) r.2
    where
      by : (axis : Axis) → pos 1 ≤ℤ at axis g → Member y (put axis x (at axis x -ℤ pos 1) ∷ put axis x (at axis x +ℤ pos 1) ∷ []) → Within g x y
      by axis some (inl e) =
          subst (λ (v : IVec). Within g x v) (ap (λ (z : ℤ). put axis x z) (sym (back_one (at axis x))) ∙ sym e) (beside g x axis (negsuc 0) low some (omega (arith, ints)) (omega (arith, ints)))
      by axis some (inr (inl e)) = subst (λ (v : IVec). Within g x v) (sym e) (beside g x axis (pos 1) low some (omega (arith, ints)) (omega (arith, ints)))
      by axis some (inr (inr e)) = absurd e

  axis_some : (low high : ℤ) (v : IVec) → axes_within p.dim low high v ≡ true → (axis : Axis) → Member axis (real_axes p.dim) → low ≤ℤ at axis v
  unfolding axes_within
  axis_some low high v h axis m =
      let i = and_parts (is_within low high v.i) _ h in
      let j = and_parts (is_within low high v.j) _ i.1 in
      by (p.dim == 2) (within_of low high v.i i.0).0 (within_of low high v.j j.0).0 j.1 m
    where
      by : (t : Bool) → low ≤ℤ v.i → low ≤ℤ v.j → (t || is_within low high v.k) ≡ true → Member axis (cond t (I ∷ J ∷ []) (I ∷ J ∷ K ∷ [])) → low ≤ℤ at axis v
      by true i j k (inl e) = subst (λ (a : Axis). low ≤ℤ at a v) (sym e) i
      by true i j k (inr (inl e)) = subst (λ (a : Axis). low ≤ℤ at a v) (sym e) j
      by true i j k (inr (inr e)) = absurd e
      by false i j k (inl e) = subst (λ (a : Axis). low ≤ℤ at a v) (sym e) i
      by false i j k (inr (inl e)) = subst (λ (a : Axis). low ≤ℤ at a v) (sym e) j
      by false i j k (inr (inr (inl e))) = subst (λ (a : Axis). low ≤ℤ at a v) (sym e) (within_of low high v.k k).0
      by false i j k (inr (inr (inr e))) = absurd e

  field_is : (f : Field) → Member f p.fields → IsFieldOf p f
  unfolding is_field is_border
  field_is f m =
      let a = and_parts (axes_within p.dim (pos 0) (pos 8) f.ghosts) _ (members_pass (is_field p.dim) p.fields is.fields f m) in
      let b = and_parts (nat_le 2 f.modulus) _ a.1 in
      let c = and_parts (nat_le f.modulus 2147483647) _ b.1 in
      let d = and_parts (nat_le f.centre 1000) _ c.1 in
      let e = and_parts (nat_le f.face 1000) _ d.1 in
      let g = and_parts (f.face == 0 || axes_within p.dim (pos 1) (pos 8) f.ghosts) _ e.1 in
      let border = (and_parts (is_init f.init) _ g.1).1 in
      let x = and_parts (is_below f.modulus f.boundary.i) _ border in
      let y = and_parts (is_below f.modulus f.boundary.j) (is_below f.modulus f.boundary.k) x.1 in
      let two = nat_le_true 2 f.modulus b.0 in
      let ghosts = ghost_width p is f m in
      let narrow = ghosts.few in
      record {
        rules = record {
          some = two;
          most = nat_le_true f.modulus 2147483647 c.0;
          positive = ghosts.low;
          narrow = record { k = omega (arith, ints, narrow.k); j = omega (arith, ints, narrow.j); i = omega (arith, ints, narrow.i) };
          centre = nat_le_true f.centre 1000 d.0;
          face = nat_le_true f.face 1000 e.0;
          boundary = below_border f.modulus f.boundary (below_of f.modulus f.boundary.i two x.0).0 (below_of f.modulus f.boundary.j two y.0).0 (below_of f.modulus f.boundary.k two y.1).0;
        };
        narrow = narrow;
        wide = ghosts.wide;
        nested = λ l less. ghosts.nested l (omega (arith, less));
        about = elim (or_cases (f.face == 0) (axes_within p.dim (pos 1) (pos 8) f.ghosts) g.0) [
          | inl none ↦ inl (eqb-true f.face 0 none)
          | inr real ↦ inr (λ x y k. faces_about f.ghosts x y ghosts.low (axis_some (pos 1) (pos 8) f.ghosts real) k)
        ];
        fixed = λ h. (below_of f.modulus f.boundary.i two x.0).1;
      }
    where
      below_border : (m : ℕ) (b : Border) → IsBelow m b.i → IsBelow m b.j → IsBelow m b.k → (axis : Axis) → IsBelow m (rule_on axis b)
      below_border m b i j k I = i
      below_border m b i j k J = j
      below_border m b i j k K = k

  ground_is : IsGround p
  ground_is =
      let some = is.some_field in
      let few = is.few_fields in
      let first = has_level0 p is in
      record {
        area = first.area;
        plain = region_plain p is;
        space = λ l less. (domain p is l (omega (arith, less))).is_area.frame;
        ratio = λ l less. (domain p is l (omega (arith, less))).ratio;
        step = λ l. step_ratio (step_of p l) (step_is p is l);
        four = λ l. (step_is p is l).high;
        nest = nest_low p is;
        width = first.width.low;
        wide = is.wide;
        room = room_of;
        some = omega (arith, some);
        few = omega (arith, few);
        fields = field_is;
      }

pub problems_have_ground : ProblemsHaveGround
problems_have_ground p is = ground_is p is

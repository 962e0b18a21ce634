-- Values that linear refinement gives stay below the modulus.
use Rattle.std.proofs.Common.{◌≡◌, ◌⊎◌, ℕ, ◌<◌, refl, sym, ap, ◌∙◌, subst, inl, inr, arith, length}
use Rattle.std.proofs.lemmas.Bool.{and_parts, false≢true}
use Rattle.std.proofs.lemmas.Bool.Decides.{nat_tests}
use Rattle.std.specs.Prelude.{Bool, true, false, not, ◌&&◌, nat_lt, Result, Ok, Err, Some, slice_get, slice_index, if◌then◌else◌}
use Rattle.samr_box.specs.declared.vector.IVec.{IVec}
use Rattle.samr_box.specs.Corners.{Holds, holds, grown}
use Rattle.samr_box.specs.Ratios.{refined}
use Rattle.samr_box.specs.Space.{wrapped}
use Rattle.samr_box.specs.Lists.{Member}
use Rattle.samr_box.proofs.CellSets.{Holds-test}
use Rattle.samr_box.proofs.Members.{member_of_All}
use Rattle.samr_level.specs.Refs.{Owned}
use Rattle.samr_level.specs.Regions.{IsInside, is_inside}
use Rattle.samr_level.proofs.Domains.{is_inside-means}
use Rattle.samr_nest.proofs.StayLaws.{cell_of_frame}
use Rattle.samr_ops.specs.declared.rules.Rules.{Rules}
use Rattle.samr_ops.specs.Rules.{IsRules}
use Rattle.samr_ops.specs.Walks.{walked}
use Rattle.samr_ops.proofs.WalkLaws.{fixed_values_fit, walks_end_inside, walks_stay_inside}
use Rattle.samr_sched.specs.Ask.{domain_of, frame_of}
use Rattle.samr_fill.specs.Fill.{Filling, IsFilling, has}
use Rattle.samr_linear.specs.declared.linear.Linear.{Linear}
use Rattle.samr_linear.specs.LinVal.{refined_between, linear_inner, linear_walked, linear_value}
use Rattle.samr_linear.specs.Laws.{LinearValuesFit}
use Rattle.samr_linear.proofs.Remainders.{lin_fits}
use Rattle.samr_fill.proofs.Fixing.{by_test}
use Rattle.samr_fill.proofs.Insides.{member_any, not_outside}
use Rattle.samr_fill.proofs.Numbered.{get_member}
use Rattle.samr_fill.proofs.FieldTasks.{length_map}
use Rattle.samr_fill.proofs.Truths.{ghost_at}
use Rattle.samr_fill.proofs.WalkEnds.{wraps_inside, plain_inside}
use Rattle.samr_fill.proofs.Ends.{near_walk, walk_about}

no_parts : (k : ℕ) → nat_lt 0 k ≡ false → k ≡ 0
no_parts k e = grind (arith, nat_tests, e)

some_parts : (k : ℕ) → nat_lt 0 k ≡ true → 0 < k
some_parts k e = grind (arith, nat_tests, e)

same_cell_of : (x y : IVec) → ◌≡◌ {A = Result IVec ℕ} (Ok x) (Ok y) → x ≡ y
same_cell_of x y e = cc

-- a test of two parts fails in one of two ways
fails : (a b : Bool) → (a && not b) ≡ false → (a ≡ false) ⊎ (b ≡ true)
fails false b e = inl refl
fails true true e = inr refl
fails true false e = absurd (false≢true (sym e))

module _ (w : Filling) (is : IsFilling w) (b : Owned) (r : Rules) (linear : Linear) (below : IVec → ℕ) (here : slice_get w.rules 0 ≡ Some r) (one : linear.modulus ≡ r.modulus) (mb : Member b w.schedule.level) where
  rules : IsRules r
  rules = member_of_All IsRules r w.rules is.rules (get_member w.rules 0 r here)

  -- inside all borders
  inner_fits : (y : IVec) → Holds (grown b.bx r.width) y → IsInside (domain_of w.schedule) y → linear_inner w linear below y < r.modulus
  inner_fits y about inside =
      let s = w.schedule in
      let z = wrapped (frame_of s) y in
      let other = refined_between w linear below y in
      by_test (has s.level z)
      (λ t.
      let c = member_any (λ (o : Owned). holds o.bx z) s.level t in
      subst (λ (v : ℕ). v < r.modulus) (sym (ap (λ (v : Bool). if v then w.values 0 z else other) t)) (is.fits 0 r z here (c.0, c.1, Holds-test c.2)))
      (λ f.
      subst (λ (v : ℕ). v < r.modulus) (sym (ap (λ (v : Bool). if v then w.values 0 z else other) f))
      (subst (λ (m : ℕ). other < m) one (lin_fits linear _ _ _ _ (omega (arith, one, rules.some)))))

  -- where a walk ends
  walked_fits : (x : IVec) → Holds (grown b.bx r.width) x → (length w.schedule.region.parts ≡ 0) ⊎ (is_inside (domain_of w.schedule) x ≡ true)
      → (o : Result IVec ℕ) → walked r (frame_of w.schedule) x ≡ o → linear_walked w linear below o < r.modulus
  walked_fits x about which (Err v) e = fixed_values_fit r (frame_of w.schedule) x v rules e
  walked_fits x about which (Ok y) e =
      let s = w.schedule in
      let d = frame_of s in
      let a = domain_of s in
      inner_fits y (walk_about w is 0 b 0 r here mb x y about e)
      (elim which [
        | inl none ↦
            plain_inside a y (length_map (λ q. refined q s.ratio) s.region.parts ∙ none)
            (wraps_inside d y is.schedule.area.frame (walks_end_inside r d x y is.schedule.area.frame (near_walk w is 0 b 0 r here mb x about) (ghost_at w is 0 r here).short e))
        | inr t ↦
            let i = (is_inside-means a x).0 t in
            let stays = walks_stay_inside r d x (not_outside d x (cell_of_frame a (wrapped d x) is.schedule.area i)) in
            subst (λ (v : IVec). IsInside a v) (same_cell_of x y (sym stays ∙ e)) i
      ])

  pub value_fits : (0 < length w.schedule.region.parts → slice_index w.schedule.fixed 0 < r.modulus) → (x : IVec) → Holds (grown b.bx r.width) x → linear_value w r linear below x < r.modulus
  unfolding linear_value
  value_fits fixed_fits x about =
      let s = w.schedule in
      let parts = nat_lt 0 (length s.region.parts) in
      let inside = is_inside (domain_of s) x in
      let fixed = slice_index s.fixed 0 in
      let walk = linear_walked w linear below (walked r (frame_of s) x) in
      by_test (parts && not inside)
      (λ t.
      subst (λ (v : ℕ). v < r.modulus) (sym (ap (λ (v : Bool). if v then fixed else walk) t))
      (fixed_fits (some_parts (length s.region.parts) (and_parts parts (not inside) t).0)))
      (λ f.
      let which : (length s.region.parts ≡ 0) ⊎ (inside ≡ true) = elim (fails parts inside f) [ inl e ↦ inl (no_parts (length s.region.parts) e) | inr i ↦ inr i ] in
      subst (λ (v : ℕ). v < r.modulus) (sym (ap (λ (v : Bool). if v then fixed else walk) f)) (walked_fits x about which (walked r (frame_of s) x) refl))

pub linear_values_fit : LinearValuesFit
linear_values_fit w r linear below b x is here one mb fixed about = value_fits w is b r linear below here one mb fixed x about

-- Values about a level stay below the moduli.
use Rattle.std.proofs.Common.{◌≡◌, ◌⊎◌, ℕ, ◌<◌, refl, sym, ap, ◌∙◌, subst, inl, inr, arith, length}
use Rattle.std.proofs.lemmas.Bool.{and_parts, false≢true}
use Rattle.std.proofs.lemmas.Bool.Decides.{nat_tests}
use Rattle.std.specs.Prelude.{Bool, true, false, not, ◌&&◌, nat_lt, List, Result, Ok, Err, Some, slice_get, slice_index, if◌then◌else◌}
use Rattle.samr_box.specs.declared.vector.IVec.{IVec}
use Rattle.samr_box.specs.Corners.{Holds, holds, grown}
use Rattle.samr_box.specs.Ratios.{coarse, refined}
use Rattle.samr_box.specs.Space.{wrapped}
use Rattle.samr_box.specs.Lists.{Member}
use Rattle.samr_box.proofs.CellSets.{Holds-test, holds-from}
use Rattle.samr_box.proofs.Members.{member_of_All}
use Rattle.samr_level.specs.Refs.{Owned}
use Rattle.samr_level.specs.Regions.{IsInside, is_inside}
use Rattle.samr_level.specs.Levels.{IsCellIn}
use Rattle.samr_level.proofs.Domains.{is_inside-means}
use Rattle.samr_nest.proofs.StayLaws.{cell_of_frame}
use Rattle.samr_ops.specs.declared.rules.Rules.{Rules}
use Rattle.samr_ops.specs.Rules.{IsRules, refined_value}
use Rattle.samr_ops.specs.Walks.{walked}
use Rattle.samr_ops.proofs.Fitting.{refined_values_fit}
use Rattle.samr_ops.proofs.WalkLaws.{fixed_values_fit, walks_end_inside, walks_stay_inside}
use Rattle.samr_sched.specs.Ask.{domain_of, frame_of, coarse_frame}
use Rattle.samr_fill.specs.Fill.{Filling, IsFilling, has, child, inner_value, walked_value, value_of}
use Rattle.samr_fill.specs.Laws.{ValuesFit}
use Rattle.samr_fill.proofs.Fixing.{by_test}
use Rattle.samr_fill.proofs.Insides.{any_member, member_any, not_outside}
use Rattle.samr_fill.proofs.Numbered.{get_member}
use Rattle.samr_fill.proofs.FieldTasks.{length_map}
use Rattle.samr_fill.proofs.Truths.{width_at, ghost_at}
use Rattle.samr_fill.proofs.WalkEnds.{wraps_inside, plain_inside}
use Rattle.samr_fill.proofs.Ends.{near_walk, walk_about}

no_parts : (k : ℕ) → nat_lt 0 k ≡ false → k ≡ 0
no_parts k e = grind (arith, nat_tests, e)

some_parts : (k : ℕ) → nat_lt 0 k ≡ true → 0 < k
some_parts k e = grind (arith, nat_tests, e)

same_cell_of : (x y : IVec) → ◌≡◌ {A = Result IVec ℕ} (Ok x) (Ok y) → x ≡ y
same_cell_of x y e = cc

-- a test of two parts fails in one of two ways
fails : (a b : Bool) → (a && not b) ≡ false → (a ≡ false) ⊎ (b ≡ true)
fails false b e = inl refl
fails true true e = inr refl
fails true false e = absurd (false≢true (sym e))

module _ (w : Filling) (is : IsFilling w) (b : Owned) (n : ℕ) (r : Rules) (here : slice_get w.rules n ≡ Some r) (mb : Member b w.schedule.level) where
  rules : IsRules r
  rules = member_of_All IsRules r w.rules is.rules (get_member w.rules n r here)

  -- inside all borders
  inner_fits : (y : IVec) → Holds (grown b.bx r.width) y → IsInside (domain_of w.schedule) y → inner_value w (n, r) y < r.modulus
  inner_fits y about inside =
      let s = w.schedule in
      let z = wrapped (frame_of s) y in
      let under = wrapped (coarse_frame s) (coarse y s.step) in
      let other = refined_value r (w.coarse_values n under) (child y s.step) in
      by_test (has s.level z)
      (λ t.
      let c = member_any (λ (o : Owned). holds o.bx z) s.level t in
      subst (λ (v : ℕ). v < r.modulus) (sym (ap (λ (v : Bool). if v then w.values n z else other) t)) (is.fits n r z here (c.0, c.1, Holds-test c.2)))
      (λ f.
      let cell : IsCellIn s.coarser under =
      elim (is.sourced b r.width y mb (get_member s.ghosts n r.width (width_at w is n r here)) about inside) [
        | inl c ↦ absurd (false≢true (sym f ∙ any_member (λ (o : Owned). holds o.bx z) c.0 s.level c.1 (holds-from c.2)))
        | inr c ↦ c
      ] in
      subst (λ (v : ℕ). v < r.modulus) (sym (ap (λ (v : Bool). if v then w.values n z else other) f))
      (refined_values_fit r (w.coarse_values n under) (child y s.step) rules (is.coarse_fits n r under here cell)))

  -- where a walk ends
  walked_fits : (x : IVec) → Holds (grown b.bx r.width) x → (length w.schedule.region.parts ≡ 0) ⊎ (is_inside (domain_of w.schedule) x ≡ true)
      → (o : Result IVec ℕ) → walked r (frame_of w.schedule) x ≡ o → walked_value w (n, r) o < r.modulus
  walked_fits x about which (Err v) e = fixed_values_fit r (frame_of w.schedule) x v rules e
  walked_fits x about which (Ok y) e =
      let s = w.schedule in
      let d = frame_of s in
      let a = domain_of s in
      inner_fits y (walk_about w is 0 b n r here mb x y about e)
      (elim which [
        | inl none ↦
            plain_inside a y (length_map (λ q. refined q s.ratio) s.region.parts ∙ none)
            (wraps_inside d y is.schedule.area.frame (walks_end_inside r d x y is.schedule.area.frame (near_walk w is 0 b n r here mb x about) (ghost_at w is n r here).short e))
        | inr t ↦
            let i = (is_inside-means a x).0 t in
            let stays = walks_stay_inside r d x (not_outside d x (cell_of_frame a (wrapped d x) is.schedule.area i)) in
            subst (λ (v : IVec). IsInside a v) (same_cell_of x y (sym stays ∙ e)) i
      ])

  pub value_fits : (0 < length w.schedule.region.parts → slice_index w.schedule.fixed n < r.modulus) → (x : IVec) → Holds (grown b.bx r.width) x → value_of w (n, r) x < r.modulus
  unfolding value_of
  value_fits fixed_fits x about =
      let s = w.schedule in
      let parts = nat_lt 0 (length s.region.parts) in
      let inside = is_inside (domain_of s) x in
      let fixed = slice_index s.fixed n in
      let walk = walked_value w (n, r) (walked r (frame_of s) x) in
      by_test (parts && not inside)
      (λ t.
      subst (λ (v : ℕ). v < r.modulus) (sym (ap (λ (v : Bool). if v then fixed else walk) t))
      (fixed_fits (some_parts (length s.region.parts) (and_parts parts (not inside) t).0)))
      (λ f.
      let which : (length s.region.parts ≡ 0) ⊎ (inside ≡ true) = elim (fails parts inside f) [ inl e ↦ inl (no_parts (length s.region.parts) e) | inr i ↦ inr i ] in
      subst (λ (v : ℕ). v < r.modulus) (sym (ap (λ (v : Bool). if v then fixed else walk) f)) (walked_fits x about which (walked r (frame_of s) x) refl))

pub values_fit : ValuesFit
values_fit w n r b x is here mb fixed about = value_fits w is b n r here mb fixed x about

-- Each ghost cell has one origin.
use Rattle.std.proofs.Common.{◌≡◌, refl, sym, ap, ◌∙◌, subst, inl, inr}
use Rattle.std.proofs.lemmas.Bool.{false≢true}
use Rattle.std.specs.Prelude.{Bool, true, false, not, ◌&&◌, if◌then◌else◌, List, [], ◌∷◌, ◌++◌}
use Rattle.samr_box.specs.declared.vector.IVec.{IVec}
use Rattle.samr_box.specs.Corners.{Holds, holds, grown}
use Rattle.samr_box.specs.Ratios.{coarse}
use Rattle.samr_box.specs.Space.{Space, finer, image, wrapped}
use Rattle.samr_box.specs.Lists.{Member}
use Rattle.samr_box.proofs.Vectors.{same_cell}
use Rattle.samr_box.proofs.Products.{mul_assoc}
use Rattle.samr_box.proofs.CellSets.{holds-from, Holds-test, Holds-grown}
use Rattle.samr_level.specs.Refs.{Owned}
use Rattle.samr_level.specs.Regions.{is_inside, IsInside, boxes_of}
use Rattle.samr_level.specs.Levels.{IsCellIn}
use Rattle.samr_level.specs.Overlaps.{shifts}
use Rattle.samr_level.proofs.Domains.{member-held}
use Rattle.samr_border.specs.Turns.{turns, IsNearFrame}
use Rattle.samr_border.proofs.TurnLaws.{near_neighbour}
use Rattle.samr_sched.specs.declared.origin.Origin.{Origin}
use Rattle.samr_sched.specs.declared.origin.Origin.TheVariants.{Outside, Copy, Coarse}
use Rattle.samr_sched.specs.Ask.{Scheduling, IsScheduling, IsSourced, domain_of, frame_of, coarse_domain, coarse_frame}
use Rattle.samr_sched.specs.Origins.{in_level, of_heads, origins}
use Rattle.samr_sched.proofs.Heads.{heads_none, any_from, any_is}
use Rattle.samr_sched.proofs.LevelHeads.{of_frame, heads_not, heads_at, near_coarse}

-- the origins, by whether the cell lies in the domain and in the level
abbrev pub by_tests : Scheduling → IVec → Bool → Bool → List Origin
by_tests w x t u =
    (if not t then Outside ∷ [] else [])
    ++ of_heads (λ h s. t && holds (image (frame_of w) h.bx s) x) (λ h s. Copy h s) w.level (shifts (frame_of w).periodic)
    ++ of_heads (λ h s. t && (not u && holds (image (coarse_frame w) h.bx s) (coarse x w.step))) (λ h s. Coarse h s) w.coarser (shifts (frame_of w).periodic)

pub origins_are : (w : Scheduling) (x : IVec) → origins w x ≡ by_tests w x (is_inside (domain_of w) x) (in_level w x)
unfolding origins
origins_are w x = refl

pub three : {X : Type 0} (a a' b b' c c' : List X) → a ≡ a' → b ≡ b' → c ≡ c' → a ++ b ++ c ≡ a' ++ b' ++ c'
three {X} a a' b b' c c' e f g =
    ap (λ (l : List X). l ++ b ++ c) e ∙ ap (λ (l : List X). a' ++ l ++ c) f ∙ ap (λ (l : List X). a' ++ b' ++ l) g

-- the finer frame, by way of the level below
pub frame_is : (w : Scheduling) → IsScheduling w → frame_of w ≡ finer (coarse_frame w) w.step
frame_is w h =
    ap (λ (r : IVec). finer w.region.frame r) (sym h.product)
    ∙ ap (λ (v : IVec). let d : Space = record { size = v; periodic = w.region.frame.periodic } in d)
    (sym (same_cell (mul_assoc w.region.frame.size.k w.below.k w.step.k) (mul_assoc w.region.frame.size.j w.below.j w.step.j) (mul_assoc w.region.frame.size.i w.below.i w.step.i)))

module _ (w : Scheduling) (h : IsScheduling w) (b : Owned) (g x : IVec) (m : Member b w.level) (n : Member g w.ghosts) (has : Holds (grown b.bx g) x) where
  pub near : IsNearFrame (frame_of w) x
  near =
      let ghost_width = h.ghosts g n in
      let r = (Holds-grown b.bx g (h.level.not_empty b m) ghost_width.low x).0 has in
      near_neighbour (frame_of w) g r.0 x ghost_width.short (of_frame (domain_of w) w.ranks w.level h.area h.level b m r.0 r.1) r.2

  pub near_below : IsNearFrame (coarse_frame w) (coarse x w.step)
  near_below = near_coarse (coarse_frame w) w.step x h.step (subst (λ (d : Space). IsNearFrame d x) (frame_is w h) near)

  pub inside_from : is_inside (domain_of w) x ≡ true → IsInside (domain_of w) x
  inside_from t = member-held (wrapped (frame_of w) x) (boxes_of (domain_of w)) t

  pub level_from : in_level w x ≡ true → IsCellIn w.level (wrapped (frame_of w) x)
  level_from t =
      let r = any_from (λ (b : Owned). holds b.bx (wrapped (frame_of w) x)) w.level t in
      (r.0, r.1, Holds-test {b = r.0.bx} {x = wrapped (frame_of w) x} r.2)

  pub level_is : IsCellIn w.level (wrapped (frame_of w) x) → in_level w x ≡ true
  level_is (c, k, p) = any_is (λ (b : Owned). holds b.bx (wrapped (frame_of w) x)) w.level c k (holds-from {b = c.bx} {x = wrapped (frame_of w) x} p)

  outside_alone : (u : Bool) → by_tests w x false u ≡ Outside ∷ []
  outside_alone u =
      three (Outside ∷ []) (Outside ∷ [])
      (of_heads (λ h s. false && holds (image (frame_of w) h.bx s) x) (λ h s. Copy h s) w.level (shifts (frame_of w).periodic)) []
      (of_heads (λ h s. false && (not u && holds (image (coarse_frame w) h.bx s) (coarse x w.step))) (λ h s. Coarse h s) w.coarser (shifts (frame_of w).periodic)) []
      refl
      (heads_none (λ h s. Copy h s) (shifts (frame_of w).periodic) (λ h s. false && holds (image (frame_of w) h.bx s) x) w.level (λ h s p q. refl))
      (heads_none (λ h s. Coarse h s) (shifts (frame_of w).periodic) (λ h s. false && (not u && holds (image (coarse_frame w) h.bx s) (coarse x w.step))) w.coarser (λ h s p q. refl))

  copy_alone : IsCellIn w.level (wrapped (frame_of w) x) → (o : Origin) × (by_tests w x true true ≡ o ∷ [])
  copy_alone (c, k, p) = (
    Copy c (turns (frame_of w) x),
    three [] []
        (of_heads (λ h s. true && holds (image (frame_of w) h.bx s) x) (λ h s. Copy h s) w.level (shifts (frame_of w).periodic)) (Copy c (turns (frame_of w) x) ∷ [])
        (of_heads (λ h s. true && (not true && holds (image (coarse_frame w) h.bx s) (coarse x w.step))) (λ h s. Coarse h s) w.coarser (shifts (frame_of w).periodic)) []
        refl
        (heads_at (domain_of w) w.ranks w.level h.area h.level (λ h s. Copy h s) x c k p near)
        (heads_none (λ h s. Coarse h s) (shifts (frame_of w).periodic) (λ h s. true && (not true && holds (image (coarse_frame w) h.bx s) (coarse x w.step))) w.coarser (λ h s p q. refl)),
  )

  coarse_alone : (IsCellIn w.level (wrapped (frame_of w) x) → ⊥) → IsCellIn w.coarser (wrapped (coarse_frame w) (coarse x w.step))
      → (o : Origin) × (by_tests w x true false ≡ o ∷ [])
  coarse_alone out (c, k, p) = (
    Coarse c (turns (coarse_frame w) (coarse x w.step)),
    three [] []
        (of_heads (λ h s. true && holds (image (frame_of w) h.bx s) x) (λ h s. Copy h s) w.level (shifts (frame_of w).periodic)) []
        (of_heads (λ h s. true && (not false && holds (image (coarse_frame w) h.bx s) (coarse x w.step))) (λ h s. Coarse h s) w.coarser (shifts (frame_of w).periodic))
        (Coarse c (turns (coarse_frame w) (coarse x w.step)) ∷ [])
        refl
        (heads_not (domain_of w) w.ranks w.level h.area h.level (λ h s. Copy h s) x out)
        (heads_at (coarse_domain w) w.ranks w.coarser h.coarse_area h.coarser (λ h s. Coarse h s) (coarse x w.step) c k p near_below),
  )

  pub one_origin : IsSourced w → (o : Origin) × (origins w x ≡ o ∷ [])
  one_origin sourced = by (is_inside (domain_of w) x) refl (in_level w x) refl
    where
      is_by : (t u : Bool) → is_inside (domain_of w) x ≡ t → in_level w x ≡ u → origins w x ≡ by_tests w x t u
      is_by t u e f = origins_are w x ∙ ap (λ (v : Bool). by_tests w x v (in_level w x)) e ∙ ap (by_tests w x t) f

      by : (t : Bool) → is_inside (domain_of w) x ≡ t → (u : Bool) → in_level w x ≡ u → (o : Origin) × (origins w x ≡ o ∷ [])
      by false e u f = (Outside, is_by false u e f ∙ outside_alone u)
      by true e true f = let r = copy_alone (level_from f) in (r.0, is_by true true e f ∙ r.1)
      by true e false f =
          let out : IsCellIn w.level (wrapped (frame_of w) x) → ⊥ = λ i. false≢true (sym f ∙ level_is i) in
          let source = sourced b g x m n has (inside_from e) in
          let r = coarse_alone out (elim source [ inl there ↦ absurd (out there) | inr below ↦ below ]) in
          (r.0, is_by true false e f ∙ r.1)

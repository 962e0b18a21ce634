-- Cells about a box of a level: which lie in the domain, and which values they have.
use Rattle.std.proofs.Common.{◌≡◌, ℕ, refl, sym, ap, ◌∙◌, subst, inl, inr, arith, length}
use Rattle.std.proofs.lemmas.Int.{ints}
use Rattle.std.proofs.lemmas.Bool.{or_cases, or_left, or_right, false≢true, false_from_ne_true}
use Rattle.std.specs.Prelude.{pos, ◌≤ℤ◌, ◌<ℤ◌, Bool, true, false, ◌&&◌, not, nat_lt, IsTrue, ◌↔◌, ◌⊎◌, List, [], ◌∷◌, map, slice_index, Ok, if◌then◌else◌}
use Rattle.std.specs.List.{list_any}
use Rattle.samr_box.specs.declared.vector.Axis.{Axis}
use Rattle.samr_box.specs.declared.vector.IVec.{IVec}
use Rattle.samr_box.specs.Vector.{at, AtMost}
use Rattle.samr_box.specs.Corners.{Corners, Holds, holds, grown}
use Rattle.samr_box.specs.Ratios.{coarse, refined}
use Rattle.samr_box.specs.Space.{Space, IsSpace, whole, wrapped, is_outside, LeavesOn}
use Rattle.samr_box.specs.Lists.{Member}
use Rattle.samr_box.proofs.CellSets.{Holds-grown, Holds-whole, holds-from, Holds-test}
use Rattle.samr_box.proofs.Wraps.{wrapped-physical, outside-means}
use Rattle.samr_boxlist.specs.Covers.{held}
use Rattle.samr_boxlist.proofs.Covering.{and_false}
use Rattle.samr_level.specs.Refs.{Owned}
use Rattle.samr_level.specs.Regions.{Area, boxes_of, IsInside, is_inside}
use Rattle.samr_level.specs.Levels.{IsCellIn}
use Rattle.samr_level.proofs.Domains.{is_inside-means}
use Rattle.samr_border.specs.Turns.{IsNearFrame}
use Rattle.samr_border.proofs.TurnLaws.{near_neighbour}
use Rattle.samr_nest.specs.Starts.{stretched, needed}
use Rattle.samr_nest.specs.Nested.{IsPlain, images}
use Rattle.samr_nest.proofs.Subtracting.{held-all_subtracted, held-commons}
use Rattle.samr_nest.proofs.StartLaws.{stretched_has, has_stretched, boxes_span}
use Rattle.samr_nest.proofs.NestedBy.{images_full}
use Rattle.samr_nest.proofs.StayLaws.{cell_of_frame, level_images}
use Rattle.samr_ops.specs.declared.rules.Rules.{Rules}
use Rattle.samr_ops.specs.Rules.{refined_value}
use Rattle.samr_ops.specs.Walks.{walked}
use Rattle.samr_ops.proofs.WalkLaws.{walks_stay_inside}
use Rattle.samr_sched.specs.Ask.{Scheduling, IsScheduling, IsGhost, domain_of, frame_of, coarse_frame}
use Rattle.samr_sched.specs.Plans.{rest}
use Rattle.samr_fill.specs.Fill.{Filling, IsFilling, has, child, inner_value, walked_value, value_of}

-- a member that passes a test
pub any_member : {X : Type 0} (p : X → Bool) (x : X) (xs : List X) → Member x xs → p x ≡ true → list_any p xs ≡ true
any_member p x [] m t = absurd m
any_member p x (y ∷ ys) (inl e) t = or_left (p y) (list_any p ys) (ap p (sym e) ∙ t)
any_member p x (y ∷ ys) (inr m) t = or_right (p y) (list_any p ys) (any_member p x ys m t)

pub member_any : {X : Type 0} (p : X → Bool) (xs : List X) → list_any p xs ≡ true → (x : X) × Member x xs × (p x ≡ true)
member_any p [] t = absurd (false≢true t)
member_any p (y ∷ ys) t =
    elim (or_cases (p y) (list_any p ys) t) [
      | inl here ↦ (y, inl refl, here)
      | inr later ↦ let r = member_any p ys later in (r.0, inr r.1, r.2)
    ]

-- a cell that wraps into the frame lies inside all physical borders
pub not_outside : (d : Space) (x : IVec) → Holds (whole d) (wrapped d x) → is_outside d x ≡ false
not_outside d x h =
    false_from_ne_true (is_outside d x)
    (λ t.
    let o = (outside-means d x).0 t in
    off o.0 o.1)
  where
    off : (axis : Axis) → LeavesOn axis d x → ⊥
    off axis (p, inl below) =
        let e = wrapped-physical d x axis p in
        let b = (Holds-whole d (wrapped d x)).0 h axis in
        let low = b.0 in
        omega (arith, ints, below, e, low)
    off axis (p, inr above) =
        let e = wrapped-physical d x axis p in
        let b = (Holds-whole d (wrapped d x)).0 h axis in
        let high = b.1 in
        omega (arith, ints, above, e, high)

-- a domain of a finer level is plain too
plain_finer : (s : Scheduling) → IsPlain s.region → IsPlain (domain_of s)
plain_finer s h axis e = ap (map (λ p. refined p s.ratio)) (h axis e)

module _ (s : Scheduling) (h : IsScheduling s) (b : Owned) (g : IVec) (mb : Member b s.level) (ghost : IsGhost s g) where
  pub home : (y : IVec) → Holds b.bx y → Holds (whole (frame_of s)) y
  home y q = cell_of_frame (domain_of s) y h.area (h.level.inside b y mb q)

  pub near_frame : (x : IVec) → Holds (grown b.bx g) x → IsNearFrame (frame_of s) x
  near_frame x q =
      let y = (Holds-grown b.bx g (h.level.not_empty b mb) ghost.low x).0 q in
      near_neighbour (frame_of s) g y.0 x ghost.short (home y.0 y.1) y.2

  -- the parts inside have the cells of the domain
  pub inside_means : (x : IVec) → Holds (grown b.bx g) x → IsTrue (held x (needed (domain_of s) (grown b.bx g))) ↔ IsInside (domain_of s) x
  inside_means x q =
      let a = domain_of s in
      let G = grown b.bx g in
      let need = held-commons (stretched a.frame G) G x (boxes_of a) in (
        λ t.
            let n = need.0 t in
            let p = n.0.0 in
            (p, n.0.1, has_stretched a.frame G p x h.area.frame (boxes_span a p (plain_finer s h.plain) n.0.1) n.0.2),
        λ (p, m, w). need.1 ((p, m, stretched_has a.frame G p x q w), q),
      )

  -- the rest has those that the level does not have
  pub rest_holds : (x : IVec) → held x (rest s g b) ≡ true → Holds (grown b.bx g) x
  rest_holds x t =
      let a = domain_of s in
      let G = grown b.bx g in
      let left = held-all_subtracted x (images a s.level) (needed a G) (images_full a s.level h.level.not_empty) in
      ((held-commons (stretched a.frame G) G x (boxes_of a)).0 (left.0 t).0).1

  pub rest_means : (x : IVec) → Holds (grown b.bx g) x
      → IsTrue (held x (rest s g b)) ↔ (IsInside (domain_of s) x × (IsCellIn s.level (wrapped (frame_of s) x) → ⊥))
  rest_means x q =
      let a = domain_of s in
      let left = held-all_subtracted x (images a s.level) (needed a (grown b.bx g)) (images_full a s.level h.level.not_empty) in
      let law = level_images a s.ranks s.level x h.area h.level (near_frame x q) in
      let need = inside_means x q in (
        λ t. let r = left.0 t in (need.0 r.0, λ i. false≢true (sym r.1 ∙ law.1 i)),
        λ (i, out). left.1 (need.1 i, false_from_ne_true (held x (images a s.level)) (λ t. out (law.0 t))),
      )

module _ (w : Filling) (is : IsFilling w) where
  pub value_inside : (f : ℕ × Rules) (x : IVec) → IsInside (domain_of w.schedule) x → value_of w f x ≡ inner_value w f x
  unfolding value_of
  value_inside f x i =
      let a = domain_of w.schedule in
      let parts = nat_lt 0 (length w.schedule.region.parts) in
      let fixed = slice_index w.schedule.fixed f.0 in
      let rest = walked_value w f (walked f.1 (frame_of w.schedule) x) in
      ap (λ (t : Bool). if parts && not t then fixed else rest) ((is_inside-means a x).1 i)
      ∙ ap (λ (t : Bool). if t then fixed else rest) (and_false parts)
      ∙ ap (walked_value w f) (walks_stay_inside f.1 (frame_of w.schedule) x (not_outside (frame_of w.schedule) x (cell_of_frame a (wrapped a.frame x) is.schedule.area i)))

  pub level_inside : (x : IVec) → IsCellIn w.schedule.level (wrapped (frame_of w.schedule) x) → IsInside (domain_of w.schedule) x
  level_inside x c = is.schedule.level.inside c.0 (wrapped (frame_of w.schedule) x) c.1 c.2

  pub level_value : (f : ℕ × Rules) (x : IVec) → IsCellIn w.schedule.level (wrapped (frame_of w.schedule) x) → value_of w f x ≡ w.values f.0 (wrapped (frame_of w.schedule) x)
  level_value f x c =
      let y = wrapped (frame_of w.schedule) x in
      let other = refined_value f.1 (w.coarse_values f.0 (wrapped (coarse_frame w.schedule) (coarse x w.schedule.step))) (child x w.schedule.step) in
      value_inside f x (level_inside x c)
      ∙ ap (λ (t : Bool). if t then w.values f.0 y else other) (any_member (λ (b : Owned). holds b.bx y) c.0 w.schedule.level c.1 (holds-from c.2))

  pub coarse_value : (f : ℕ × Rules) (x : IVec) → IsInside (domain_of w.schedule) x → (IsCellIn w.schedule.level (wrapped (frame_of w.schedule) x) → ⊥)
      → value_of w f x ≡ refined_value f.1 (w.coarse_values f.0 (wrapped (coarse_frame w.schedule) (coarse x w.schedule.step))) (child x w.schedule.step)
  coarse_value f x i none =
      let y = wrapped (frame_of w.schedule) x in
      let other = refined_value f.1 (w.coarse_values f.0 (wrapped (coarse_frame w.schedule) (coarse x w.schedule.step))) (child x w.schedule.step) in
      value_inside f x i
      ∙ ap (λ (t : Bool). if t then w.values f.0 y else other)
      (false_from_ne_true (has w.schedule.level y) (λ t. let r = member_any (λ (b : Owned). holds b.bx y) w.schedule.level t in none (r.0, r.1, Holds-test r.2)))

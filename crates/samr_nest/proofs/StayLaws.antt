-- Which cells of a cluster stay.
use Rattle.std.proofs.Common.{◌≡◌, ℕ, zero, suc, refl, sym, ◌∙◌, subst, inl, inr, arith}
use Rattle.std.proofs.lemmas.Int.{ints}
use Rattle.std.proofs.lemmas.Bool.{false≢true, false_from_ne_true}
use Rattle.std.specs.Prelude.{ℤ, pos, negsuc, ◌≤ℤ◌, Bool, true, false, IsTrue, List, [], ◌∷◌, map, ◌↔◌}
use Rattle.samr_box.specs.declared.vector.Axis.TheVariants.{I, J, K}
use Rattle.samr_box.specs.declared.vector.IVec.{IVec}
use Rattle.samr_box.specs.Vector.{Within}
use Rattle.samr_box.specs.Corners.{Corners, IsBox, Holds, grown}
use Rattle.samr_box.specs.Space.{Space, whole, wrapped}
use Rattle.samr_box.specs.Lists.{Member}
use Rattle.samr_box.proofs.Vectors.{Within-sym}
use Rattle.samr_box.proofs.CellSets.{Holds-grown, holds_box-means}
use Rattle.samr_box.proofs.Members.{Member-map, Member-from_map}
use Rattle.samr_boxlist.specs.Covers.{held}
use Rattle.samr_level.specs.Refs.{Owned}
use Rattle.samr_level.specs.Regions.{Area, IsArea, boxes_of, IsCellOf, IsInside}
use Rattle.samr_level.specs.Levels.{IsLevel, IsCellIn}
use Rattle.samr_level.specs.Overlaps.{steps, shifts}
use Rattle.samr_level.specs.Neighbours.{IsWidth}
use Rattle.samr_level.proofs.Domains.{held-from, member-held}
use Rattle.samr_level.proofs.Level0Laws.{boxes-facts}
use Rattle.samr_level.proofs.Overlapping.{Member-shifts, Member-from_shifts}
use Rattle.samr_border.specs.Turns.{IsStepOn, IsShiftOf, IsNearFrame}
use Rattle.samr_border.specs.Images.{AreShiftsOf}
use Rattle.samr_border.proofs.TurnLaws.{near_neighbour}
use Rattle.samr_border.proofs.ImageCells.{in_images}
use Rattle.samr_nest.specs.Starts.{stretched, needed, inner}
use Rattle.samr_nest.specs.Nested.{images, holes, nested, Stays, IsPlain}
use Rattle.samr_nest.proofs.Subtracting.{held-all_subtracted, held-grown, held-commons}
use Rattle.samr_nest.proofs.StartLaws.{stretched_has, has_stretched, boxes_span}
use Rattle.samr_nest.proofs.NestedBy.{images_full, holes_within, gaps_full, within_full}

-- the shifts of a level's images are those of the frame
step_from : (p : Bool) (z : ℤ) → Member z (steps p) → IsStepOn p z
step_from true z (inl e) = (omega (arith, ints, e), omega (arith, ints, e), λ f. absurd (false≢true (sym f)))
step_from true z (inr (inl e)) = (omega (arith, ints, e), omega (arith, ints, e), λ f. absurd (false≢true (sym f)))
step_from true z (inr (inr (inl e))) = (omega (arith, ints, e), omega (arith, ints, e), λ f. absurd (false≢true (sym f)))
step_from true z (inr (inr (inr m))) = absurd m
step_from false z (inl e) = (omega (arith, ints, e), omega (arith, ints, e), λ f. e)
step_from false z (inr m) = absurd m

unit_step : (z : ℤ) → negsuc 0 ≤ℤ z → z ≤ℤ pos 1 → Member z (negsuc 0 ∷ pos 0 ∷ pos 1 ∷ [])
unit_step (pos zero) low high = inr (inl refl)
unit_step (pos (suc zero)) low high = inr (inr (inl refl))
unit_step (pos (suc (suc n))) low high = absurd (omega (arith, ints, high))
unit_step (negsuc zero) low high = inl refl
unit_step (negsuc (suc n)) low high = absurd (omega (arith, ints, low))

step_member : (p : Bool) (z : ℤ) → IsStepOn p z → Member z (steps p)
step_member true z h = unit_step z h.0 h.1
step_member false z h = inl (h.2 refl)

pub shifts_are : (d : Space) → AreShiftsOf d (shifts d.periodic)
shifts_are d s = (
  λ m. from_member (Member-from_shifts d.periodic s m),
  λ h. Member-shifts d.periodic s (step_member d.periodic.k s.k (h K)) (step_member d.periodic.j s.j (h J)) (step_member d.periodic.i s.i (h I)),
)
  where
    from_member : Member s.k (steps d.periodic.k) × Member s.j (steps d.periodic.j) × Member s.i (steps d.periodic.i) → IsShiftOf d s
    from_member h I = step_from d.periodic.i s.i h.2
    from_member h J = step_from d.periodic.j s.j h.1
    from_member h K = step_from d.periodic.k s.k h.0

-- cells of the domain are cells of the frame
pub cell_of_frame : (a : Area) (x : IVec) → IsArea a → IsCellOf a x → Holds (whole a.frame) x
cell_of_frame a x area (p, m, h) =
    let f = boxes-facts a area p m in
    (holds_box-means (whole a.frame) p f.0.order).0 f.1 x h

-- the images of a level have a cell near the frame exactly where the level has the wrapped cell
pub level_images : (a : Area) (ranks : ℕ) (level : List Owned) (y : IVec) → IsArea a → IsLevel a ranks level → IsNearFrame a.frame y
    → IsTrue (held y (images a level)) ↔ IsCellIn level (wrapped a.frame y)
level_images a ranks level y area is near =
    let boxes = map (λ (b : Owned). b.bx) level in
    let law = in_images a.frame (shifts a.frame.periodic) boxes y area.frame (shifts_are a.frame)
    (λ b m x h.
    let o = Member-from_map (λ (v : Owned). v.bx) b level m in
    let P : Corners → Type 0 = λ v. Holds v x in
    cell_of_frame a x area (is.inside o.0 x o.1 (subst P o.2 h)))
    near in (
      λ t.
          let r = law.0 (member-held y (images a level) t) in
          let o = Member-from_map (λ (v : Owned). v.bx) r.0 level r.1 in
          let P : Corners → Type 0 = λ v. Holds v (wrapped a.frame y) in
          (o.0, o.1, subst P o.2 r.2),
      λ (b, m, h).
          let r = law.1 (b.bx, Member-map (λ (v : Owned). v.bx) b level m, h) in
          held-from y r.0 (images a level) r.1 r.2,
    )

-- what a box needs of the domain has its cells in the domain
pub needed_at : (a : Area) (g : Corners) (y : IVec) → IsArea a → IsPlain a → IsTrue (held y (needed a g)) ↔ (Holds g y × IsInside a y)
needed_at a g y area plain =
    let need = held-commons (stretched a.frame g) g y (boxes_of a) in (
      λ t. let n = need.0 t in let p = n.0.0 in (n.1, (p, n.0.1, has_stretched a.frame g p y area.frame (boxes_span a p plain n.0.1) n.0.2)),
      λ (h, (p, m, w)). need.1 ((p, m, stretched_has a.frame g p y h w), h),
    )

-- a hole near the frame is a cell of the domain that the level does not have
pub hole_at : (a : Area) (ranks : ℕ) (level : List Owned) (g : Corners) (y : IVec) → IsArea a → IsLevel a ranks level → IsPlain a → IsNearFrame a.frame y
    → IsTrue (held y (holes a level g)) ↔ (Holds g y × IsInside a y × (IsCellIn level (wrapped a.frame y) → ⊥))
hole_at a ranks level g y area is plain near =
    let left = held-all_subtracted y (images a level) (needed a g) (images_full a level is.not_empty) in
    let law = level_images a ranks level y area is near in
    let need = needed_at a g y area plain in (
      λ t. let h = left.0 t in let n = need.0 h.0 in (n.0, n.1, λ i. false≢true (sym h.1 ∙ law.1 i)),
      λ (h, inside, out). left.1 (need.1 (h, inside), false_from_ne_true (held y (images a level)) (λ t. out (law.0 t))),
    )

module _ (a : Area) (ranks : ℕ) (level : List Owned) (nest : IVec) (c : Corners)
    (area : IsArea a) (is : IsLevel a ranks level) (width : IsWidth a.frame nest) (box : IsBox c) (around : IsBox (grown c nest))
    (home : (x : IVec) → Holds c x → Holds (whole a.frame) x) (plain : IsPlain a) where
  hole : (y : IVec) → IsNearFrame a.frame y → IsTrue (held y (holes a level (grown c nest)))
      ↔ (Holds (grown c nest) y × IsInside a y × (IsCellIn level (wrapped a.frame y) → ⊥))
  hole y near = hole_at a ranks level (grown c nest) y area is plain near

  near_frame : (x y : IVec) → Holds c x → Within nest x y → IsNearFrame a.frame y
  near_frame x y h w = near_neighbour a.frame nest x y width.high (home x h) w

  gaps : (x : IVec) → IsTrue (held x (map (λ m. grown m nest) (holes a level (grown c nest))))
      ↔ ((y : IVec) × (held y (holes a level (grown c nest)) ≡ true) × Within nest y x)
  gaps x = held-grown nest x (holes a level (grown c nest))
      (within_full (grown c nest) (holes a level (grown c nest)) (holes_within a level (grown c nest) area around is.not_empty)) width.low

  left : (x : IVec) → IsTrue (held x (nested a level nest c))
      ↔ ((held x (inner a c) ≡ true) × (held x (map (λ m. grown m nest) (holes a level (grown c nest))) ≡ false))
  unfolding nested
  left x = held-all_subtracted x (map (λ m. grown m nest) (holes a level (grown c nest))) (inner a c)
      (gaps_full nest (holes a level (grown c nest)) width.low
      (within_full (grown c nest) (holes a level (grown c nest)) (holes_within a level (grown c nest) area around is.not_empty)))

  pub nested_cells : (x : IVec) → IsTrue (held x (nested a level nest c)) ↔ Stays a level nest c x
  nested_cells x = (
    λ t.
        let h = (left x).0 t in
        let n = (held-commons (λ (b : Corners). b) c x (boxes_of a)).0 h.0 in
        record {
          in_cluster = n.1;
          in_domain = n.0;
          in_level = λ y w inside.
              let near = near_frame x y n.1 w in
              let law = level_images a ranks level y area is near in
              by_test y (held y (images a level)) refl law near w inside n.1 h.1;
        },
    λ s.
        let start = (held-commons (λ (b : Corners). b) c x (boxes_of a)).1 (s.in_domain, s.in_cluster) in
        (left x).1 (
          start,
          false_from_ne_true (held x (map (λ m. grown m nest) (holes a level (grown c nest))))
              (λ t.
              let g = (gaps x).0 t in
              let w = Within-sym nest g.0 x g.2 in
              let h = (hole g.0 (near_frame x g.0 s.in_cluster w)).0 g.1 in
              h.2 (s.in_level g.0 w h.1)),
        ),
  )
    where
      by_test : (y : IVec) (t : Bool) → held y (images a level) ≡ t → IsTrue (held y (images a level)) ↔ IsCellIn level (wrapped a.frame y)
          → IsNearFrame a.frame y → Within nest x y → IsInside a y → Holds c x
          → held x (map (λ m. grown m nest) (holes a level (grown c nest))) ≡ false → IsCellIn level (wrapped a.frame y)
      by_test y true e law near w inside h none = law.0 e
      by_test y false e law near w inside h none =
          let g = (Holds-grown c nest box.order width.low y).1 (x, h, w) in
          let t = (hole y near).1 (g, inside, λ i. false≢true (sym e ∙ law.1 i)) in
          absurd (false≢true (sym none ∙ (gaps x).1 (y, t, Within-sym nest x y w)))

-- Which boxes of a level have a cell, and at which shift.
use Rattle.std.proofs.Common.{◌≡◌, ℕ, sym, ◌∙◌, arith}
use Rattle.std.proofs.lemmas.Int.{ints}
use Rattle.std.proofs.lemmas.Bool.{false≢true, false_from_ne_true}
use Rattle.std.specs.Prelude.{ℤ, pos, neg_ℤ, ◌+ℤ◌, ◌-ℤ◌, ◌*ℤ◌, ◌≤ℤ◌, ◌<ℤ◌, Bool, true, false, List, [], ◌∷◌}
use Rattle.samr_box.specs.declared.vector.Axis.TheVariants.{I, J, K}
use Rattle.samr_box.specs.declared.vector.IVec.{IVec}
use Rattle.samr_box.specs.Vector.{IsRatio}
use Rattle.samr_box.specs.Corners.{Holds, holds}
use Rattle.samr_box.specs.Ratios.{floor, coarse}
use Rattle.samr_box.specs.Space.{Space, finer, image, wrapped}
use Rattle.samr_box.specs.Lists.{Member}
use Rattle.samr_box.proofs.Products.{mul-neg, mul-plus, mul-minus, mul_one}
use Rattle.samr_box.proofs.Floors.{floor-from_mul, floor-to_last}
use Rattle.samr_box.proofs.CellSets.{holds-from, Holds-test, Meet-cell}
use Rattle.samr_box.proofs.Totals.{cell_total}
use Rattle.samr_level.specs.Refs.{Owned}
use Rattle.samr_level.specs.Regions.{Area, IsArea}
use Rattle.samr_level.specs.Levels.{IsLevel, IsCellIn}
use Rattle.samr_level.specs.Overlaps.{shifts}
use Rattle.samr_level.proofs.RefLaws.{ref_total}
use Rattle.samr_level.proofs.Overlapping.{shifts_sorted}
use Rattle.samr_border.specs.Turns.{turns, IsNearOn, IsNearFrame}
use Rattle.samr_border.specs.Images.{IsOfFrame}
use Rattle.samr_border.proofs.TurnLaws.{turns_shift}
use Rattle.samr_border.proofs.ImageCells.{image_wrapped, image_turns, image_by_turns}
use Rattle.samr_nest.proofs.StayLaws.{shifts_are, cell_of_frame}
use Rattle.samr_sched.specs.declared.origin.Origin.{Origin}
use Rattle.samr_sched.specs.Origins.{of_heads}
use Rattle.samr_sched.proofs.Heads.{filter_one, heads_none, heads_one}

module _ (a : Area) (ranks : ℕ) (level : List Owned) (area : IsArea a) (is : IsLevel a ranks level) where
  pub of_frame : (b : Owned) → Member b level → IsOfFrame a.frame b.bx
  of_frame b m x h = cell_of_frame a x area (is.inside b x m h)

  pub same_box : (g h : Owned) (x : IVec) → Member g level → Member h level → Holds g.bx x → Holds h.bx x → g ≡ h
  same_box g h x m n p q = is.disjoint g h m n (Meet-cell {a = g.bx} {b = h.bx} {x = x} p q)

  -- the image of a box has a cell only where the box has the wrapped cell, and by its turns
  pub found : (h : Owned) (s x : IVec) → Member h level → Member s (shifts a.frame.periodic) → holds (image a.frame h.bx s) x ≡ true
      → Holds h.bx (wrapped a.frame x) × (s ≡ turns a.frame x)
  found h s x m n t =
      let has = Holds-test {b = image a.frame h.bx s} {x = x} t in
      let step = (shifts_are a.frame s).0 n in
      (image_wrapped a.frame h.bx s x area.frame (of_frame h m) step has, image_turns a.frame h.bx s x area.frame (of_frame h m) step has)

  no_image : (h : Owned) (s x : IVec) → Member h level → Member s (shifts a.frame.periodic) → holds h.bx (wrapped a.frame x) ≡ false
      → holds (image a.frame h.bx s) x ≡ false
  no_image h s x m n none =
      false_from_ne_true (holds (image a.frame h.bx s) x)
      (λ t. false≢true (sym none ∙ holds-from {b = h.bx} {x = wrapped a.frame x} (found h s x m n t).0))

  module _ (make : Owned → IVec → Origin) (x : IVec) where
    -- no box has it, and one has it
    pub heads_not : (IsCellIn level (wrapped a.frame x) → ⊥) → of_heads (λ h s. holds (image a.frame h.bx s) x) make level (shifts a.frame.periodic) ≡ []
    heads_not out =
        heads_none make (shifts a.frame.periodic) (λ h s. holds (image a.frame h.bx s) x) level
        (λ h s m n. no_image h s x m n (false_from_ne_true (holds h.bx (wrapped a.frame x)) (λ t. out (h, m, Holds-test {b = h.bx} {x = wrapped a.frame x} t))))

    pub heads_at : (h : Owned) → Member h level → Holds h.bx (wrapped a.frame x) → IsNearFrame a.frame x
        → of_heads (λ h s. holds (image a.frame h.bx s) x) make level (shifts a.frame.periodic) ≡ make h (turns a.frame x) ∷ []
    heads_at h m has near =
        heads_one make (shifts a.frame.periodic) (λ h s. holds (image a.frame h.bx s) x) level (λ k. holds k.bx (wrapped a.frame x)) h (turns a.frame x)
        (filter_one ref_total (λ k. holds k.bx (wrapped a.frame x)) h level is.in_order m (holds-from {b = h.bx} {x = wrapped a.frame x} has)
        (λ k n t. same_box k h (wrapped a.frame x) n m (Holds-test {b = k.bx} {x = wrapped a.frame x} t) has))
        (filter_one cell_total (λ s. holds (image a.frame h.bx s) x) (turns a.frame x) (shifts a.frame.periodic) (shifts_sorted a.frame.periodic)
        ((shifts_are a.frame (turns a.frame x)).1 (turns_shift a.frame x))
        (holds-from {b = image a.frame h.bx (turns a.frame x)} {x = x} (image_by_turns a.frame h.bx x area.frame near has))
        (λ s n t. (found h s x m n t).1))
        (λ k v n f l. no_image k v x n l f)

-- the cell in which a cell near the frame lies is near the coarser frame
near_coarse_on : (periodic : Bool) (n r x : ℤ) → pos 1 ≤ℤ r → IsNearOn periodic (n *ℤ r) x → IsNearOn periodic n (floor x r)
near_coarse_on periodic n r x p near e =
    let h = near e in
    let low = h.0 in
    let high = h.1 in
    let neg = mul-neg n r in
    let twice = mul-plus n n r in
    let less = mul-minus (n +ℤ n) (pos 1) r in
    let one = mul_one r in
    let positive : pos 0 <ℤ r = omega (arith, ints, p) in
    let below : floor x r ≤ℤ ((n +ℤ n) -ℤ pos 1) = floor-to_last x r ((n +ℤ n) -ℤ pos 1) positive (omega (arith, ints, high, twice, less, one)) in
    (floor-from_mul x r (neg_ℤ n) positive (omega (arith, ints, low, neg)), omega (arith, ints, below))

pub near_coarse : (d : Space) (r x : IVec) → IsRatio r → IsNearFrame (finer d r) x → IsNearFrame d (coarse x r)
near_coarse d r x ratio near I = near_coarse_on d.periodic.i d.size.i r.i x.i ratio.low.i (near I)
near_coarse d r x ratio near J = near_coarse_on d.periodic.j d.size.j r.j x.j ratio.low.j (near J)
near_coarse d r x ratio near K = near_coarse_on d.periodic.k d.size.k r.k x.k ratio.low.k (near K)

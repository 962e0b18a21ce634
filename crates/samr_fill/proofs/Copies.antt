-- Patches of the same cells.
use Rattle.std.proofs.Common.{◌≡◌, ℕ, refl, sym, ap, ◌∙◌, subst}
use Rattle.std.proofs.lemmas.Bool.{and_from, cond-true}
use Rattle.std.specs.Prelude.{pos, true, List, cond}
use Rattle.samr_box.specs.declared.vector.IVec.{IVec}
use Rattle.samr_box.specs.Vector.{alike, AtMost, minus, at_most}
use Rattle.samr_box.specs.Corners.{Corners, Holds, holds, holds_box, grown}
use Rattle.samr_box.proofs.Vectors.{AtMost-refl}
use Rattle.samr_box.proofs.CellSets.{at_most-from, holds-from}
use Rattle.samr_data.specs.Places.{moved_back}
use Rattle.samr_data.specs.Grids.{Grid, IsGrid, over, value_at, grid_of, written, copied, moved_values}
use Rattle.samr_data.proofs.Lists.{listed_same}
use Rattle.samr_data.proofs.PlaceLaws.{part_Holds}
use Rattle.samr_data.proofs.Patches.{copies_region, holds_still}
use Rattle.samr_fill.specs.FilledSoFar.{IsCopyOf}
use Rattle.samr_fill.proofs.Corners.{inside_grown}
use Rattle.samr_fill.proofs.Turning.{minus_nothing}

pub holds_self : (b : Corners) → holds_box b b ≡ true
holds_self b = and_from (at_most b.lo b.lo) (at_most b.hi b.hi) (at_most-from (AtMost-refl b.lo)) (at_most-from (AtMost-refl b.hi))

-- a new patch of a box, and the same box in another patch
pub box_inside : (copy : Grid) (b : Corners) (w : IVec) → AtMost (alike (pos 0)) w → copy ≡ grid_of b w (λ _. 0) → holds_box (over copy) b ≡ true
box_inside copy b w p is = subst (λ (c : Corners). holds_box c b ≡ true) (sym (ap over is)) (inside_grown b b w p (holds_self b))

pub box_still : (b : Corners) (w step : IVec) → AtMost b.lo b.hi → AtMost (alike (pos 0)) w → step ≡ alike (pos 0) → holds_box (grown b w) (moved_back b step) ≡ true
box_still b w step order p e = inside_grown b (moved_back b step) w p (holds_still b step e order)

pub copy_is : (p copy q : Grid) (step : IVec) → AtMost (alike (pos 0)) p.width → copy ≡ grid_of p.bx p.width (λ _. 0) → step ≡ alike (pos 0)
    → q ≡ written copy (copied copy p.bx (moved_values p step)) → IsCopyOf p q
copy_is p copy q step positive made none is = record {
  same_box = ap (λ (g : Grid). g.bx) is ∙ ap (λ (g : Grid). g.bx) made;
  same_width = ap (λ (g : Grid). g.width) is ∙ ap (λ (g : Grid). g.width) made;
  values = λ x h.
      ap (λ (g : Grid). value_at g x) is
      ∙ copies_region copy p.bx (moved_values p step) x (part_Holds (over copy) p.bx x (box_inside copy p.bx p.width positive made) h) h
      ∙ ap (λ (s : IVec). value_at p (minus x s)) none
      ∙ ap (value_at p) (minus_nothing x);
}

-- all cells written
pub all_written : (p out q : Grid) (whole : Corners) (f : IVec → ℕ) → IsGrid p → out ≡ grid_of p.bx p.width (λ _. 0) → whole ≡ over p
    → q ≡ written out (copied out whole f) → q ≡ written p f
all_written p out q whole f g made all is =
    is
    ∙ ap (λ (o : Grid). written o (copied o whole f)) made
    ∙ ap (λ (l : List ℕ). let o : Grid = record { bx = p.bx; width = p.width; values = l } in o)
    (listed_same (over p) (copied (grid_of p.bx p.width (λ _. 0)) whole f) f g.whole.order
    (λ x h. cond-true (holds whole x) (f x) (value_at (grid_of p.bx p.width (λ _. 0)) x) (holds-from (subst (λ (c : Corners). Holds c x) (sym all) h))))

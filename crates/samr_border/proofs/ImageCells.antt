-- Which image of a box has a cell, for one box and for all boxes of a list.
use Rattle.std.proofs.Common.{◌≡◌, sym, ◌∙◌, ap, subst, arith}
use Rattle.std.proofs.lemmas.Int.{ints}
use Rattle.std.specs.Prelude.{List, map, ◌↔◌}
use Rattle.samr_box.specs.declared.vector.IVec.{IVec}
use Rattle.samr_box.specs.Vector.{minus, times}
use Rattle.samr_box.specs.Corners.{Corners, Holds}
use Rattle.samr_box.specs.Space.{Space, IsSpace, image, wrapped}
use Rattle.samr_box.specs.Lists.{Member}
use Rattle.samr_box.proofs.Members.{Member-map, Member-from_map, Member-flat_map, Member-from_flat_map}
use Rattle.samr_border.specs.Turns.{turns, IsNearFrame, IsShiftOf}
use Rattle.samr_border.specs.Images.{IsOfFrame, images_by, IsIn, AreShiftsOf}
use Rattle.samr_border.proofs.TurnLaws.{turns_home, turns_is, turns_shift, near_of_shift}

-- a cell of an image, moved back, is a cell of the box
pub holds_moved_back : (d : Space) (b : Corners) (s x : IVec) → Holds (image d b s) x ↔ Holds b (minus x (times s d.size))
holds_moved_back d b s x = (
  λ h. record {
    low = record { k = omega (arith, ints, h.low.k); j = omega (arith, ints, h.low.j); i = omega (arith, ints, h.low.i) };
    high = record { k = omega (arith, ints, h.high.k); j = omega (arith, ints, h.high.j); i = omega (arith, ints, h.high.i) };
  },
  λ h. record {
    low = record { k = omega (arith, ints, h.low.k); j = omega (arith, ints, h.low.j); i = omega (arith, ints, h.low.i) };
    high = record { k = omega (arith, ints, h.high.k); j = omega (arith, ints, h.high.j); i = omega (arith, ints, h.high.i) };
  },
)

-- an image of a box of the frame that has the cell: its shift is the cell's turns, the box has the wrapped cell,
-- and the cell is near the frame
pub image_turns : (d : Space) (b : Corners) (s x : IVec) → IsSpace d → IsOfFrame d b → IsShiftOf d s → Holds (image d b s) x → s ≡ turns d x
image_turns d b s x h inside step has =
    let back = (holds_moved_back d b s x).0 has in
    turns_is d x s h step (inside (minus x (times s d.size)) back)

pub image_near : (d : Space) (b : Corners) (s x : IVec) → IsSpace d → IsOfFrame d b → IsShiftOf d s → Holds (image d b s) x → IsNearFrame d x
image_near d b s x h inside step has =
    let back = (holds_moved_back d b s x).0 has in
    near_of_shift d x s h step (inside (minus x (times s d.size)) back)

pub image_home : (d : Space) (b : Corners) (s x : IVec) → IsSpace d → IsOfFrame d b → IsShiftOf d s → Holds (image d b s) x → minus x (times s d.size) ≡ wrapped d x
image_home d b s x h inside step has =
    let is = image_turns d b s x h inside step has in
    ap (λ (v : IVec). minus x (times v d.size)) is ∙ turns_home d x h (image_near d b s x h inside step has)

pub image_wrapped : (d : Space) (b : Corners) (s x : IVec) → IsSpace d → IsOfFrame d b → IsShiftOf d s → Holds (image d b s) x → Holds b (wrapped d x)
image_wrapped d b s x h inside step has =
    let P : IVec → Type 0 = λ v. Holds b v in
    subst P (image_home d b s x h inside step has) ((holds_moved_back d b s x).0 has)

-- the image by the turns has the cell where the box has the wrapped cell
pub image_by_turns : (d : Space) (b : Corners) (x : IVec) → IsSpace d → IsNearFrame d x → Holds b (wrapped d x) → Holds (image d b (turns d x)) x
image_by_turns d b x h near has =
    let P : IVec → Type 0 = λ v. Holds b v in
    (holds_moved_back d b (turns d x) x).1 (subst P (sym (turns_home d x h near)) has)

pub one_image : (d : Space) (b : Corners) (s x : IVec) → IsSpace d → IsOfFrame d b → IsShiftOf d s → IsNearFrame d x
    → Holds (image d b s) x ↔ (Holds b (wrapped d x) × (s ≡ turns d x))
one_image d b s x h inside step near = (
  λ has. (image_wrapped d b s x h inside step has, image_turns d b s x h inside step has),
  λ f. let P : IVec → Type 0 = λ v. Holds (image d b v) x in subst P (sym f.1) (image_by_turns d b x h near f.0),
)

-- the images of the boxes of a list
pub in_images : (d : Space) (shifts : List IVec) (boxes : List Corners) (x : IVec) → IsSpace d → AreShiftsOf d shifts
    → ((b : Corners) → Member b boxes → IsOfFrame d b) → IsNearFrame d x → IsIn (images_by d shifts boxes) x ↔ IsIn boxes (wrapped d x)
in_images d shifts boxes x h are inside near = (
  λ (c, m, has).
      let f = Member-from_flat_map (λ (b : Corners). map (λ s. image d b s) shifts) c boxes m in
      let g = Member-from_map (λ s. image d f.0 s) c shifts f.2 in
      let P : Corners → Type 0 = λ v. Holds v x in
      (f.0, f.1, image_wrapped d f.0 g.0 x h (inside f.0 f.1) ((are g.0).0 g.1) (subst P g.2 has)),
  λ (b, m, has).
      let s = turns d x in
      let t : Member s shifts = (are s).1 (turns_shift d x) in (
        image d b s,
        Member-flat_map (λ (a : Corners). map (λ v. image d a v) shifts) (image d b s) b boxes m (Member-map (λ v. image d b v) s shifts t),
        image_by_turns d b x h near has,
      ),
)

-- The shifts at which the images of a level are looked for are those of its frame.
use Rattle.std.proofs.Common.{zero, suc, refl, sym, inl, inr, arith}
use Rattle.std.proofs.lemmas.Int.{ints}
use Rattle.std.proofs.lemmas.Bool.{false≢true}
use Rattle.std.specs.Prelude.{ℤ, pos, negsuc, ◌≤ℤ◌, Bool, true, false, [], ◌∷◌}
use Rattle.samr_box.specs.declared.vector.Axis.TheVariants.{I, J, K}
use Rattle.samr_box.specs.Space.{Space}
use Rattle.samr_box.specs.Lists.{Member}
use Rattle.samr_level.specs.Overlaps.{steps, shifts}
use Rattle.samr_level.proofs.Overlapping.{Member-shifts, Member-from_shifts}
use Rattle.samr_border.specs.Turns.{IsStepOn, IsShiftOf}
use Rattle.samr_border.specs.Images.{AreShiftsOf}

-- the shifts of a level's images are those of the frame
step_from : (p : Bool) (z : ℤ) → Member z (steps p) → IsStepOn p z
step_from true z (inl e) = (omega (arith, ints, e), omega (arith, ints, e), λ f. absurd (false≢true (sym f)))
step_from true z (inr (inl e)) = (omega (arith, ints, e), omega (arith, ints, e), λ f. absurd (false≢true (sym f)))
step_from true z (inr (inr (inl e))) = (omega (arith, ints, e), omega (arith, ints, e), λ f. absurd (false≢true (sym f)))
step_from true z (inr (inr (inr m))) = absurd m
step_from false z (inl e) = (omega (arith, ints, e), omega (arith, ints, e), λ f. e)
step_from false z (inr m) = absurd m

unit_step : (z : ℤ) → negsuc 0 ≤ℤ z → z ≤ℤ pos 1 → Member z (negsuc 0 ∷ pos 0 ∷ pos 1 ∷ [])
unit_step (pos zero) low high = inr (inl refl)
unit_step (pos (suc zero)) low high = inr (inr (inl refl))
unit_step (pos (suc (suc n))) low high = absurd (omega (arith, ints, high))
unit_step (negsuc zero) low high = inl refl
unit_step (negsuc (suc n)) low high = absurd (omega (arith, ints, low))

step_member : (p : Bool) (z : ℤ) → IsStepOn p z → Member z (steps p)
step_member true z h = unit_step z h.0 h.1
step_member false z h = inl (h.2 refl)

pub shifts_are : (d : Space) → AreShiftsOf d (shifts d.periodic)
shifts_are d s = (
  λ m. from_member (Member-from_shifts d.periodic s m),
  λ h. Member-shifts d.periodic s (step_member d.periodic.k s.k (h K)) (step_member d.periodic.j s.j (h J)) (step_member d.periodic.i s.i (h I)),
)
  where
    from_member : Member s.k (steps d.periodic.k) × Member s.j (steps d.periodic.j) × Member s.i (steps d.periodic.i) → IsShiftOf d s
    from_member h I = step_from d.periodic.i s.i h.2
    from_member h J = step_from d.periodic.j s.j h.1
    from_member h K = step_from d.periodic.k s.k h.0

-- A scratch patch has what linear refinement reads.
use Rattle.std.proofs.Common.{◌≡◌, ℕ, true, ap, ◌∙◌}
use Rattle.std.specs.Prelude.{map, if◌then◌else◌, Bool}
use Rattle.samr_box.specs.declared.vector.Axis.{Axis}
use Rattle.samr_box.specs.declared.vector.Axis.TheVariants.{I, J, K}
use Rattle.samr_box.specs.declared.vector.IVec.{IVec}
use Rattle.samr_box.specs.Space.{flag}
use Rattle.samr_data.specs.Grids.{Grid, value_at, grid_of}
use Rattle.samr_data.proofs.Patches.{has_its_values}
use Rattle.samr_linear.specs.Lin.{on, lin}
use Rattle.samr_linear.specs.LinVal.{before, behind}
use Rattle.samr_linear.specs.Scratches.{lower, upper, side, lows, highs, ScratchIsEnough}
use Rattle.samr_linear.proofs.Remainders.{only_real_axes_count}

real_side : (p : Grid) (r : Bool) (x : IVec) (v : ℕ) → r ≡ true → value_at p x ≡ v → side p r x ≡ v
real_side p r x v e h = ap (λ (b : Bool). if b then value_at p x else 0) e ∙ h

pub scratch_is_enough : ScratchIsEnough
scratch_is_enough s b width below c o h =
    let p : Grid = grid_of b width below in
    let low : (axis : Axis) → flag axis s.real ≡ true → on axis (lows p s.real c) ≡ on axis (map below (before c)) = elim [
      | I ↦ λ e. real_side p (flag I s.real) (lower I c) (below (lower I c)) e (has_its_values b width below (lower I c) (h.low I e))
      | J ↦ λ e. real_side p (flag J s.real) (lower J c) (below (lower J c)) e (has_its_values b width below (lower J c) (h.low J e))
      | K ↦ λ e. real_side p (flag K s.real) (lower K c) (below (lower K c)) e (has_its_values b width below (lower K c) (h.low K e))
    ] in
    let high : (axis : Axis) → flag axis s.real ≡ true → on axis (highs p s.real c) ≡ on axis (map below (behind c)) = elim [
      | I ↦ λ e. real_side p (flag I s.real) (upper I c) (below (upper I c)) e (has_its_values b width below (upper I c) (h.high I e))
      | J ↦ λ e. real_side p (flag J s.real) (upper J c) (below (upper J c)) e (has_its_values b width below (upper J c) (h.high J e))
      | K ↦ λ e. real_side p (flag K s.real) (upper K c) (below (upper K c)) e (has_its_values b width below (upper K c) (h.high K e))
    ] in
    ap (λ (v : ℕ). lin s v (lows p s.real c) (highs p s.real c) o) (has_its_values b width below c h.cell)
    ∙ only_real_axes_count s (below c) (lows p s.real c) (highs p s.real c) (map below (before c)) (map below (behind c)) o (λ axis e. (low axis e, high axis e))

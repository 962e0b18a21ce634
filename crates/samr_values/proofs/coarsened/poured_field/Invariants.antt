use Rattle.std.proofs.Common.{◌≡◌, ℕ, map}
use Rattle.samr_box.specs.declared.vector.IVec.{IVec}
use Rattle.samr_box.specs.Corners.{Corners}
use Rattle.samr_values.specs.Patches.{poured}
use Rattle.samr_values.specs.Parcels.{is_told, Tell}
use Rattle.samr_values.specs.Merging.{parcels_with}
use Rattle.samr_values.proofs.coarsened.poured_field.Given as goal

abbrev pub invariant-each : goal.invariant-each
invariant-each l =
    (v : IVec → ℕ) → ((b : Corners) → Tell l.field b (parcels_with l.own l.held) v)
    → l.out.items ≡ map (λ p. poured p (is_told l.field p.bx (parcels_with l.own l.held)) v) l.yielded

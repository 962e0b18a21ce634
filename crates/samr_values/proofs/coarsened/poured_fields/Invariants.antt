use Rattle.std.proofs.Common.{◌≡◌, ℕ, map, length}
use Rattle.std.specs.List.{enumerate_from}
use Rattle.samr_box.specs.declared.vector.IVec.{IVec}
use Rattle.samr_box.specs.Corners.{Corners}
use Rattle.samr_values.specs.Patches.{poured}
use Rattle.samr_values.specs.Parcels.{is_told, Tell}
use Rattle.samr_values.specs.Merging.{parcels_with}
use Rattle.samr_values.proofs.coarsened.poured_fields.Given as goal

abbrev pub invariant-each : goal.invariant-each
invariant-each l =
    (length l.yielded ≡ l.field) × ((values : ℕ → IVec → ℕ) → ((f : ℕ) (b : Corners) → Tell f b (parcels_with l.own l.held) (values f))
    → l.out.items ≡ map (λ e. map (λ p. poured p (is_told e.0 p.bx (parcels_with l.own l.held)) (values e.0)) e.1) (enumerate_from 0 l.yielded))

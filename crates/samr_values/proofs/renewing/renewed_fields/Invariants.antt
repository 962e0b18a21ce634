use Rattle.std.proofs.Common.{◌≡◌, ℕ, map, take, cond}
use Rattle.std.specs.Prelude.{Some, slice_get}
use Rattle.std.specs.List.{enumerate_from}
use Rattle.samr_box.specs.declared.vector.IVec.{IVec}
use Rattle.samr_box.specs.Corners.{Corners, holds}
use Rattle.samr_box.specs.Lists.{Member}
use Rattle.samr_data.specs.Grids.{grid_of}
use Rattle.samr_ops.specs.declared.rules.Rules.{Rules}
use Rattle.samr_values.specs.Parcels.{Tells}
use Rattle.samr_values.proofs.renewing.renewed_fields.Given as goal

abbrev pub invariant-loop-f : goal.invariant-loop-f
invariant-loop-f g l =
    (value : ℕ × Rules → IVec → ℕ)
    → ((f : ℕ) (r : Rules) (b : Corners) → slice_get l.strategies f ≡ Some r → Member b l.boxes → Tells f l.fn.step r b l.parcels (value (f, r)))
    → l.fields.items ≡ map (λ f. map (λ b. grid_of b f.1.width (λ x. cond (holds b x) (value f x) 0)) l.boxes) (enumerate_from 0 (take l.f l.strategies))

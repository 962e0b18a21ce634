use Rattle.std.proofs.Common.{◌≡◌, ℕ}
use Rattle.std.specs.List.{flat_map, range_with_len}
use Rattle.samr_box.specs.declared.vector.IVec.{IVec}
use Rattle.samr_values.specs.Patches.{HaveFields}
use Rattle.samr_values.specs.ValuesRow.{field_parcels}
use Rattle.samr_values.proofs.sending.parcels_along.Given as goal

abbrev pub invariant-loop-f : goal.invariant-loop-f
invariant-loop-f l =
    (values coarse_values : ℕ → IVec → ℕ) → HaveFields values l.patches → HaveFields coarse_values l.coarse_patches
    → l.parcels.items ≡ flat_map (λ f. field_parcels f l.fn.step (values f) (coarse_values f) l.olds l.coarser) (range_with_len 0 l.f)

use Rattle.std.proofs.Common.{◌≡◌, ℕ, take}
use Rattle.std.specs.List.{flat_map, filter_map}
use Rattle.samr_box.specs.declared.vector.IVec.{IVec}
use Rattle.samr_values.specs.Patches.{HaveFields}
use Rattle.samr_values.specs.Merging.{merged_along}
use Rattle.samr_values.proofs.merging.merged_fields.Given as goal

abbrev pub invariant-loop-m : goal.invariant-loop-m
invariant-loop-m l =
    (values : ℕ → IVec → ℕ) → HaveFields values l.fine
    → l.parcels.items ≡ flat_map (λ m. filter_map (λ e. merged_along m (values m.field) e) l.edges) (take l.m-index l.merges)

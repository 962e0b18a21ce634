use Rattle.std.proofs.Common.{◌≡◌, ℕ, ◌++◌, take}
use Rattle.std.specs.List.{filter_map}
use Rattle.samr_box.specs.declared.vector.IVec.{IVec}
use Rattle.samr_values.specs.Patches.{HasField}
use Rattle.samr_values.specs.ValuesRow.{old_parcel}
use Rattle.samr_values.proofs.packing.push_old.Given as goal

abbrev pub invariant-loop-e : goal.invariant-loop-e
invariant-loop-e l = (v : IVec → ℕ) → HasField v l.patches → l.parcels.items ≡ l.fn.parcels.items ++ filter_map (λ e. old_parcel l.field v e) (take l.e-index l.edges)

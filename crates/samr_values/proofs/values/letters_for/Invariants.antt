use Rattle.std.proofs.Common.{◌≡◌, ℕ, take, map, length}
use Rattle.samr_box.specs.declared.vector.IVec.{IVec}
use Rattle.samr_values.specs.Patches.{HaveFields}
use Rattle.samr_values.specs.ValuesRow.{parcels_by}
use Rattle.samr_values.proofs.values.letters_for.Given as goal

abbrev pub invariant-each : goal.invariant-each
invariant-each l =
    (values coarse_values : ℕ → IVec → ℕ) → HaveFields values l.patches → HaveFields coarse_values l.coarse_patches
    → l.letters.items ≡ map (λ to. (to, parcels_by l.fn.step values coarse_values l.olds l.coarser (length l.patches) to)) (take l.to-index l.addressees)

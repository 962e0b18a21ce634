use Rattle.std.proofs.Common.{◌≡◌, ℕ, take, map}
use Rattle.samr_box.specs.declared.vector.IVec.{IVec}
use Rattle.samr_values.specs.Patches.{HaveFields}
use Rattle.samr_values.specs.Merging.{merged_to}
use Rattle.samr_values.proofs.coarsen.letters_to.Given as goal

abbrev pub invariant-each : goal.invariant-each
invariant-each l =
    (values : ℕ → IVec → ℕ) → HaveFields values l.fine
    → l.letters.items ≡ map (λ to. (to, merged_to l.merges values l.edges to)) (take l.to-index l.addressees)

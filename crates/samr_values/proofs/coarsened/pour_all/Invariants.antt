use Rattle.std.proofs.Common.{◌≡◌, ℕ, take}
use Rattle.samr_box.specs.declared.vector.IVec.{IVec}
use Rattle.samr_values.specs.Patches.{poured}
use Rattle.samr_values.specs.Parcels.{is_told, Tell}
use Rattle.samr_values.specs.Merging.{parcels_with}
use Rattle.samr_values.proofs.coarsened.pour_all.Given as goal

abbrev pub invariant-loop-letter : goal.invariant-loop-letter
invariant-loop-letter l =
    (l.patch.bx ≡ l.fn.patch.bx) × ((v : IVec → ℕ) → Tell l.field l.fn.patch.bx (parcels_with l.own l.held) v
    → l.patch ≡ poured l.fn.patch (is_told l.field l.fn.patch.bx (parcels_with l.own (take l.letter-index l.held))) v)

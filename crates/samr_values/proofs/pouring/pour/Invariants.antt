use Rattle.std.proofs.Common.{◌≡◌, ℕ, take}
use Rattle.samr_box.specs.declared.vector.IVec.{IVec}
use Rattle.samr_values.specs.Patches.{poured}
use Rattle.samr_values.specs.Parcels.{is_told, Tell}
use Rattle.samr_values.proofs.pouring.pour.Given as goal

abbrev pub invariant-loop-q : goal.invariant-loop-q
invariant-loop-q l =
    (l.patch.bx ≡ l.fn.patch.bx) × ((v : IVec → ℕ) → Tell l.field l.fn.patch.bx l.parcels v
    → l.patch ≡ poured l.fn.patch (is_told l.field l.fn.patch.bx (take l.q-index l.parcels)) v)

use Rattle.std.proofs.Common.{◌≡◌, ℕ, take}
use Rattle.std.specs.Prelude.{◌&&◌}
use Rattle.samr_box.specs.declared.vector.IVec.{IVec}
use Rattle.samr_box.specs.Corners.{holds}
use Rattle.samr_values.specs.Patches.{poured}
use Rattle.samr_values.specs.Parcels.{is_told_under, TellUnder}
use Rattle.samr_values.proofs.pouring.pour_under.Given as goal

abbrev pub invariant-loop-q : goal.invariant-loop-q
invariant-loop-q g l =
    (l.patch.bx ≡ l.fn.patch.bx) × ((v : IVec → ℕ) → TellUnder l.field l.step l.strategy l.fn.patch.bx l.parcels v
    → l.patch ≡ poured l.fn.patch (λ x. holds l.fn.patch.bx x && is_told_under l.field l.step l.fn.patch.bx (take l.q-index l.parcels) x) v)

use Rattle.std.proofs.Common.{◌≡◌, ℕ, take}
use Rattle.samr_box.specs.declared.vector.IVec.{IVec}
use Rattle.samr_box.specs.Lists.{Member}
use Rattle.samr_data.specs.Grids.{over}
use Rattle.samr_data.specs.declared.parcel.Parcel.{Parcel}
use Rattle.samr_fill.specs.Writing.{Fixes}
use Rattle.samr_linear.specs.LinearWriting.{any_takes, AreOf}
use Rattle.samr_linear.proofs.writing.write_all.Given as goal

abbrev pub invariant-loop-parcel : goal.invariant-loop-parcel
invariant-loop-parcel g l =
    (over l.patch ≡ over l.fn.patch)
    × ((v : IVec → ℕ) → ((p : Parcel) → Member p l.parcels → AreOf v l.plan l.stencil l.rest p)
    → Fixes v (any_takes l.plan l.stencil.real l.rest (take l.parcel-index l.parcels)) l.fn.patch l.patch)

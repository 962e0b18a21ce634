use Rattle.std.proofs.Common.{◌≡◌, ℕ, take}
use Rattle.samr_box.specs.declared.vector.IVec.{IVec}
use Rattle.samr_box.specs.Lists.{Member}
use Rattle.samr_data.specs.Grids.{over}
use Rattle.samr_data.specs.declared.parcel.Parcel.{Parcel}
use Rattle.samr_fill.specs.Writing.{any_takes, AreOf, Fixes}
use Rattle.samr_fill.proofs.writing.write_all.Given as goal

abbrev pub invariant-loop-parcel : goal.invariant-loop-parcel
invariant-loop-parcel g l =
    (over l.patch ≡ over l.fn.patch)
    × ((v : IVec → ℕ) → ((p : Parcel) → Member p l.parcels → AreOf v l.plan l.strategy l.rest p)
    → Fixes v (any_takes l.plan l.rest (take l.parcel-index l.parcels)) l.fn.patch l.patch)

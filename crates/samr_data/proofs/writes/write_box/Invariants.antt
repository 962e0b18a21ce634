use Rattle.std.proofs.Common.{◌≡◌, ℕ}
use Rattle.samr_box.specs.declared.vector.IVec.{IVec}
use Rattle.samr_box.specs.Corners.{Holds}
use Rattle.samr_data.specs.Values.{changed_in, listed}
use Rattle.samr_data.proofs.CellWrites.{first_cells}
use Rattle.samr_data.proofs.writes.write_box.Given as goal

abbrev pub invariant-loop-n : goal.invariant-loop-n
invariant-loop-n g l =
    (value : IVec → ℕ) → ((x : IVec) (v : ℕ) → Holds l.region x → goal.F-post g l.f x v → v ≡ value x)
    → l.to ≡ listed l.at (changed_in l.at l.fn.to (first_cells l.region l.n) value)

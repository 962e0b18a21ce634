use Rattle.std.proofs.Common.{◌≡◌}
use Rattle.samr_box.specs.declared.vector.Axis.TheVariants.{K}
use Rattle.samr_data.specs.Values.{changed_in, listed, moved_from}
use Rattle.samr_data.proofs.Slices.{so_far}
use Rattle.samr_data.proofs.rows.copy_box.Given as goal

abbrev pub invariant-loop-z : goal.invariant-loop-z
invariant-loop-z l = l.to ≡ listed l.at (changed_in l.at l.fn.to (so_far K l.region l.z) (moved_from l.source l.from l.by))

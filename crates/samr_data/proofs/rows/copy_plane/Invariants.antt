use Rattle.std.proofs.Common.{◌≡◌}
use Rattle.samr_box.specs.declared.vector.Axis.TheVariants.{J}
use Rattle.samr_data.specs.Values.{changed_in, listed, moved_from}
use Rattle.samr_data.proofs.Slices.{so_far}
use Rattle.samr_data.proofs.rows.copy_plane.Given as goal

abbrev pub invariant-loop-y : goal.invariant-loop-y
invariant-loop-y l = l.to ≡ listed l.at (changed_in l.at l.fn.to (so_far J l.region l.y) (moved_from l.source l.from l.by))

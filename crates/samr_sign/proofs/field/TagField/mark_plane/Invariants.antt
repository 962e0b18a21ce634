use Rattle.std.proofs.Common.{◌≡◌, ◌||◌}
use Rattle.std.specs.Prelude.{◌&&◌, nat_lt}
use Rattle.samr_box.specs.declared.vector.Axis.TheVariants.{J}
use Rattle.samr_box.specs.declared.vector.IVec.{IVec}
use Rattle.samr_box.specs.Corners.{holds}
use Rattle.samr_sign.specs.Counts.{offset}
use Rattle.samr_sign.specs.Fields.{tagged}
use Rattle.samr_sign.proofs.field.TagField.mark_plane.Given as goal

abbrev pub invariant-loop-y : goal.invariant-loop-y
invariant-loop-y l = record {
  bx : l.self.bx ≡ l.fn.self.bx;
  cells : (x : IVec) → tagged l.self x ≡ ((holds l.region x && nat_lt (offset J l.region x) l.y) || tagged l.fn.self x);
}

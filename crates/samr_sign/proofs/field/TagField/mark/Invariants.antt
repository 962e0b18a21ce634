use Rattle.std.proofs.Common.{◌≡◌, ◌||◌}
use Rattle.std.specs.Prelude.{◌&&◌, nat_lt}
use Rattle.samr_box.specs.declared.vector.Axis.TheVariants.{K}
use Rattle.samr_box.specs.declared.vector.IVec.{IVec}
use Rattle.samr_box.specs.Corners.{holds}
use Rattle.samr_sign.specs.Counts.{offset}
use Rattle.samr_sign.specs.Fields.{tagged}
use Rattle.samr_sign.proofs.field.TagField.mark.Given as goal

abbrev pub invariant-loop-z : goal.invariant-loop-z
invariant-loop-z l = record {
  bx : l.self.bx ≡ l.fn.self.bx;
  cells : (x : IVec) → tagged l.self x ≡ ((holds l.region x && nat_lt (offset K l.region x) l.z) || tagged l.fn.self x);
}

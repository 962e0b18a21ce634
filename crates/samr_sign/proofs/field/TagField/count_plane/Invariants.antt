use Rattle.std.proofs.Common.{◌≡◌}
use Rattle.samr_box.specs.declared.vector.Axis.TheVariants.{J}
use Rattle.samr_bits.specs.Sums.{sum_below}
use Rattle.samr_sign.specs.Counts.{slice, tally}
use Rattle.samr_sign.specs.Fields.{tagged}
use Rattle.samr_sign.proofs.field.TagField.count_plane.Given as goal

abbrev pub invariant-loop-y : goal.invariant-loop-y
invariant-loop-y l = l.count ≡ sum_below (λ p. tally (tagged l.self) (slice J l.part p)) l.y

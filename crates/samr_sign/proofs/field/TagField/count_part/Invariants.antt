use Rattle.std.proofs.Common.{◌≡◌}
use Rattle.samr_box.specs.declared.vector.Axis.TheVariants.{K}
use Rattle.samr_bits.specs.Sums.{sum_below}
use Rattle.samr_sign.specs.Counts.{slice, tally}
use Rattle.samr_sign.specs.Fields.{tagged}
use Rattle.samr_sign.proofs.field.TagField.count_part.Given as goal

abbrev pub invariant-loop-z : goal.invariant-loop-z
invariant-loop-z l = l.count ≡ sum_below (λ p. tally (tagged l.self) (slice K l.part p)) l.z

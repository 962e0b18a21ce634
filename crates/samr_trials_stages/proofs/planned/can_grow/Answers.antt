use Rattle.samr_box.proofs.Ranges.{InRange-lo, InRange-hi, FitsVector-plus, FitsVector-minus}
use Rattle.samr_trials_stages.proofs.planned.can_grow.Goals as goal

pub minus-requires : goal.minus-requires
minus-requires c = FitsVector-minus (InRange-lo c.b.invariant) c.requires

pub plus-requires : goal.plus-requires
plus-requires c = FitsVector-plus (InRange-hi c.b.invariant) c.requires

use Rattle.samr_box.proofs.Ranges.{InRange-lo, InRange-hi, FitsVector-plus, FitsVector-minus}
use Rattle.samr_linear.proofs.Rings.{around_range}
use Rattle.samr_linear.proofs.coarse.inner.Goals as goal

pub plus-requires : goal.plus-requires
plus-requires c = rw c.one_around-ring.ensures (FitsVector-plus (InRange-lo c.region.invariant) (around_range c.args.real))

pub minus-requires : goal.minus-requires
minus-requires c = rw c.one_around-ring.ensures (FitsVector-minus (InRange-hi c.region.invariant) (around_range c.args.real))

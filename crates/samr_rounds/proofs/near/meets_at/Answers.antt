use Rattle.samr_box.proofs.Ranges.{InRange-lo, InRange-hi, FitsVector-plus}
use Rattle.samr_rounds.proofs.near.meets_at.Goals as goal

pub plus-requires : goal.plus-requires
plus-requires c = FitsVector-plus (InRange-hi c.node.invariant) c.offset-step.ensures.small

pub plus-requires-2 : goal.plus-requires-2
plus-requires-2 c = FitsVector-plus (InRange-lo c.node.invariant) c.offset-step.ensures.small

pub plus-requires-3 : goal.plus-requires-3
plus-requires-3 c = FitsVector-plus (InRange-hi c.b.invariant) c.requires

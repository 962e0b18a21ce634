use Rattle.samr_box.proofs.Ranges.{InRange-hi, FitsVector-plus}
use Rattle.samr_mesh_plain.proofs.covered.image_has.Goals as goal

pub plus-requires-2 : goal.plus-requires-2
plus-requires-2 c = FitsVector-plus (InRange-hi c.b.invariant) c.offset-step.ensures.small

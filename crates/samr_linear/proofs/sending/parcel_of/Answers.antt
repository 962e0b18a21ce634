use Rattle.samr_fill.proofs.Corners.{inside_grown}
use Rattle.samr_linear.proofs.sending.parcel_of.Goals as goal

pub pack-requires : goal.pack-requires
pack-requires c = inside_grown c.args.patch.now.bx c.args.region c.args.patch.now.width c.over.ensures.grid.positive c.requires

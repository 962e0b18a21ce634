use Rattle.std.proofs.Common.{◌∙◌, sym}
use Rattle.samr_fill.proofs.Corners.{met_inside}
use Rattle.samr_linear.proofs.sending.copied.Goals as goal

pub parcel_of-requires : goal.parcel_of-requires
parcel_of-requires c = met_inside c.args.patch.now.bx _ c.in-Some.region (sym c.near_patch.ensures ∙ c.in-Some.is)

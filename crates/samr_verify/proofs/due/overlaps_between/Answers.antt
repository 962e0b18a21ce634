use Rattle.std.proofs.Common.{refl}
use Rattle.samr_level.proofs.Reaches.{InRange-width}
use Rattle.samr_mesh.specs.Domains.{area_of}
use Rattle.samr_mesh.proofs.Regions.{has_level0}
use Rattle.samr_verify.proofs.due.overlaps_between.Goals as goal

pub overlaps_at_most-requires : goal.overlaps_at_most-requires
overlaps_at_most-requires c =
    let p = c.args.problem.now in
    let h = has_level0 p c.requires.is in
    rw c.width_of-width.ensures (InRange-width (area_of p).frame p.width h.area.frame h.width)

pub returns : goal.returns
returns c = rw (c.in_ok-edges.ensures, c.finer_frame-finer.ensures, c.width_of-width.ensures, c.ratio_to-a.ensures, c.ratio_to-b.ensures) refl

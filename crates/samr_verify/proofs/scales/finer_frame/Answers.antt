use Rattle.std.proofs.Common.{arith, suc, ◌≤◌}
use Rattle.samr_mesh.specs.Domains.{area_of, ratio_to}
use Rattle.samr_mesh.proofs.Grounding.{domain}
use Rattle.samr_mesh.proofs.Scaling.{space_of}
use Rattle.samr_verify.proofs.Scaling.{IsSpace-greatest}
use Rattle.samr_verify.proofs.scales.finer_frame.Goals as goal

pub finer-requires : goal.finer-requires
finer-requires c =
    let p = c.args.problem.now in
    let few_l : suc c.args.l ≤ p.levels = omega arith in
    let few_m : suc c.args.m ≤ p.levels = omega arith in
    rw (c.frame_of.ensures, c.greatest.ensures, c.requires.a, c.requires.b)
    (IsSpace-greatest (area_of p).frame (ratio_to p c.args.l) (ratio_to p c.args.m)
    (space_of p c.args.l (domain p c.requires.is c.args.l few_l)) (space_of p c.args.m (domain p c.requires.is c.args.m few_m)))

use Rattle.std.proofs.Common.{◌≡◌, suc, refl, ap, ◌∙◌, take, map}
use Rattle.std.specs.Prelude.{List}
use Rattle.samr_level.specs.Refs.{Owned}
use Rattle.samr_level.specs.Overlaps.{scale, true_overlaps}
use Rattle.samr_mesh.specs.Domains.{area_of, ratio_to}
use Rattle.samr_verify.specs.MeshFaults.{due_to}
use Rattle.samr_verify.specs.Printed.{settled_at}
use Rattle.samr_verify.proofs.AlikeLaws.{joined, mapped}
use Rattle.samr_verify.proofs.due.push_edges.Goals as goal

pub returns : goal.returns
returns c =
    let p = c.args.problem.now in
    let levels = c.args.levels.now in
    let n = scale (area_of p).frame p.width (ratio_to p c.args.l) (ratio_to p c.args.m) in
    let found : take (suc c.args.most) c.as_slice-3.result.now ≡ take (suc c.args.most) (true_overlaps n (settled_at levels c.args.l) (settled_at levels c.args.m)) =
    ap (take (suc c.args.most)) c.as_slice-3.ensures.value
    ∙ c.in_ok-edges.ensures
    ∙ ap (λ (bs : List Owned). take (suc c.args.most) (true_overlaps n bs c.as_slice-2.result.now)) (c.as_slice.ensures.value ∙ c.in_ok-bases.ensures)
    ∙ ap (λ (hs : List Owned). take (suc c.args.most) (true_overlaps n (settled_at levels c.args.l) hs)) (c.as_slice-2.ensures.value ∙ c.in_ok-heads.ensures) in
    ap (take (suc c.args.most)) c.in_ok-push_to.ensures
    ∙ joined (suc c.args.most) c.args.out.now.items c.args.out.now.items (map (due_to c.args.m) c.as_slice-3.result.now)
    (map (due_to c.args.m) (true_overlaps n (settled_at levels c.args.l) (settled_at levels c.args.m))) refl
    (mapped (due_to c.args.m) (suc c.args.most) c.as_slice-3.result.now (true_overlaps n (settled_at levels c.args.l) (settled_at levels c.args.m)) found)

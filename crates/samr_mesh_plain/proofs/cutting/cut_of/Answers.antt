use Rattle.std.proofs.Common.{◌≡◌, ◌∙◌, ap, sym, subst, to_z, of_z}
use Rattle.std.specs.Int.{w64}
use Rattle.std.specs.Prelude.{ℤ, pos, IsTrue, unsigned_abs, List, [], ◌∷◌}
use Rattle.samr_box.specs.declared.vector.IVec.{IVec}
use Rattle.samr_box.specs.Vector.{alike, InRange}
use Rattle.samr_box.specs.Corners.{IsBox, holds_box, grown}
use Rattle.samr_box.specs.Space.{whole}
use Rattle.samr_level.specs.Neighbours.{IsWidth}
use Rattle.samr_level.specs.Overlaps.{scale_in, true_overlaps}
use Rattle.samr_level.specs.Refs.{Owned}
use Rattle.samr_level.specs.Regions.{Area}
use Rattle.samr_nest.specs.Nested.{cut_of, AreEdgesTo}
use Rattle.samr_problem.specs.Fields.{Fields}
use Rattle.samr_mesh.specs.Domains.{area_at, frame_at}
use Rattle.samr_mesh_plain.proofs.CutFacts.{nest_is, nest_range, cluster_inside, cluster_grows, edges_are, kept_largest, largest_is}
use Rattle.samr_mesh_plain.proofs.cutting.cut_of.Goals as goal

pub edges_of-requires : goal.edges_of-requires
edges_of-requires c =
    subst (λ (v : IVec). InRange v) (sym (ap (λ (q : Fields). q.nest) c.problem.view_is)) (nest_range c.args.problem.now c.args.w.now c.accepted.ensures c.requires.can)

pub cut-requires-clause-home : goal.cut-requires-clause-home
cut-requires-clause-home c =
    subst (λ (a : Area). IsTrue (holds_box (whole a.frame) c.args.cluster.bx)) (sym c.requires.region)
    (cluster_inside c.args.problem.now c.args.w.now c.args.cluster c.accepted.ensures c.requires.can c.requires.cluster)

pub cut-requires-clause-nest : goal.cut-requires-clause-nest
cut-requires-clause-nest c =
    subst (λ (a : Area). IsWidth a.frame c.problem.inside.nest) (sym c.requires.region)
    (subst (λ (v : IVec). IsWidth (frame_at c.args.problem.now c.args.w.now.number) v) (sym (ap (λ (q : Fields). q.nest) c.problem.view_is))
    (nest_is c.args.problem.now c.args.w.now c.accepted.ensures c.requires.can))

pub cut-requires-clause-range : goal.cut-requires-clause-range
cut-requires-clause-range c =
    subst (λ (v : IVec). IsBox (grown c.args.cluster.bx v)) (sym (ap (λ (q : Fields). q.nest) c.problem.view_is))
    (cluster_grows c.args.problem.now c.args.w.now c.args.cluster c.accepted.ensures c.requires.can c.requires.cluster)

pub cut-requires-clause-largest : goal.cut-requires-clause-largest
cut-requires-clause-largest c = kept_largest _ c.problem.invariant

pub returns : goal.returns
returns c =
    let p = c.args.problem.now in
    let w = c.args.w.now in
    let nest = ap (λ (q : Fields). q.nest) c.problem.view_is in
    let near : c.as_slice.result.now ≡ true_overlaps (scale_in (frame_at p w.number) p.nest (alike (pos 1)) (alike (pos 1))) (c.args.cluster ∷ []) w.level =
    c.as_slice.ensures.value ∙ c.in_ok-near.ensures
    ∙ ap (λ (a : Area). true_overlaps (scale_in a.frame c.problem.inside.nest (alike (pos 1)) (alike (pos 1))) (c.args.cluster ∷ []) c.boxes.result.now) c.requires.region
    ∙ ap (λ (v : IVec). true_overlaps (scale_in (frame_at p w.number) v (alike (pos 1)) (alike (pos 1))) (c.args.cluster ∷ []) c.boxes.result.now) nest
    ∙ ap (λ (l : List Owned). true_overlaps (scale_in (frame_at p w.number) p.nest (alike (pos 1)) (alike (pos 1))) (c.args.cluster ∷ []) l) c.boxes.ensures in
    let edges : AreEdgesTo c.args.region.now w.level c.problem.inside.nest c.args.cluster c.as_slice.result.now =
    subst (λ (a : Area). AreEdgesTo a w.level c.problem.inside.nest c.args.cluster c.as_slice.result.now) (sym c.requires.region)
    (subst (λ (v : IVec). AreEdgesTo (area_at p w.number) w.level v c.args.cluster c.as_slice.result.now) (sym nest)
    (edges_are p w c.args.cluster c.as_slice.result.now c.accepted.ensures c.requires.can near)) in
    c.in_ok-cut.ensures.value w.level edges
    ∙ ap (λ (a : Area). cut_of a w.level c.problem.inside.nest (unsigned_abs (to_z w64 (of_z w64 c.problem.inside.largest))) c.args.cluster) c.requires.region
    ∙ ap (λ (v : IVec). cut_of (area_at p w.number) w.level v (unsigned_abs (to_z w64 (of_z w64 c.problem.inside.largest))) c.args.cluster) nest
    ∙ ap (λ (z : ℤ). cut_of (area_at p w.number) w.level p.nest (unsigned_abs z) c.args.cluster) (largest_is _ c.problem.invariant ∙ ap (λ (q : Fields). q.largest) c.problem.view_is)

use Rattle.std.proofs.Common.{◌∙◌, ap, sym, subst}
use Rattle.std.specs.Prelude.{Bool, List, filter}
use Rattle.std.specs.List.{All, list_any}
use Rattle.samr_box.specs.declared.vector.IVec.{IVec}
use Rattle.samr_box.specs.Corners.{Holds, holds}
use Rattle.samr_box.specs.Space.{Space, whole}
use Rattle.samr_mesh.specs.Domains.{frame_at}
use Rattle.samr_mesh.specs.Passes.{Pass, tags_in}
use Rattle.samr_mesh_plain.specs.Making.{one_cell}
use Rattle.samr_mesh_plain.proofs.CellFields.{picked, all_inside}
use Rattle.samr_mesh_plain.proofs.TagFacts.{framed}
use Rattle.samr_mesh_plain.proofs.tagged.tags_in.Goals as goal

pub field_of-requires : goal.field_of-requires
field_of-requires c =
    let test : IVec → Bool = tags_in c.args.problem.now c.args.w.now in
    let is = c.as_slice-3.ensures.value ∙ c.in_ok-found.ensures ∙ ap (λ (xs : List IVec). filter test xs) (c.as_slice-2.ensures.value ∙ c.in_ok-cells.ensures.value) in
    subst (λ (xs : List IVec). All (λ x. Holds c.whole-frame.result x) xs) (sym is) (all_inside c.whole-frame.result test c.in_ok-cells.ensures.whole.order)

pub returns : goal.returns
returns c =
    let test : IVec → Bool = tags_in c.args.problem.now c.args.w.now in
    let is = c.as_slice-3.ensures.value ∙ c.in_ok-found.ensures ∙ ap (λ (xs : List IVec). filter test xs) (c.as_slice-2.ensures.value ∙ c.in_ok-cells.ensures.value) in
    let frame = c.whole-frame.ensures.value ∙ ap (λ (d : Space). whole d) (c.frame_at.ensures ∙ ap (λ (w : Pass). frame_at c.args.problem.now w.number) c.w.view_is) in
    λ x.
    c.in_ok-field.ensures.cells x
    ∙ ap (λ (xs : List IVec). list_any (λ y. holds (one_cell y) x) xs) is
    ∙ picked c.whole-frame.result test x c.in_ok-cells.ensures.whole.order
    ∙ framed c.args.problem.now c.args.w.now x c.whole-frame.result c.accepted.ensures c.requires frame

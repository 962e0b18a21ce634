use Rattle.std.proofs.Common.{◌∙◌, ap, sym, subst, ℕ}
use Rattle.std.specs.Prelude.{Bool, ◌&&◌, List, filter}
use Rattle.std.specs.List.{All, list_any}
use Rattle.samr_box.specs.declared.vector.IVec.{IVec}
use Rattle.samr_box.specs.Corners.{Corners, Holds, holds, grown}
use Rattle.samr_box.specs.Space.{whole}
use Rattle.samr_tags.specs.Buffer.{is_shaped}
use Rattle.samr_mesh.specs.Domains.{frame_at}
use Rattle.samr_mesh.specs.Passes.{Pass, tagging}
use Rattle.samr_mesh_plain.specs.Making.{one_cell}
use Rattle.samr_mesh_plain.proofs.CellFields.{picked, all_inside}
use Rattle.samr_mesh_plain.proofs.shaped.shaped.Goals as goal

pub field_of-requires : goal.field_of-requires
field_of-requires c =
    let test : IVec → Bool = is_shaped (tagging c.args.problem.now c.args.w.now) in
    let is = c.as_slice-2.ensures.value ∙ c.in_ok-shaped.ensures ∙ ap (λ (xs : List IVec). filter test xs) (c.as_slice.ensures.value ∙ c.in_ok-cells.ensures.value) in
    subst (λ (xs : List IVec). All (λ x. Holds c.reach-around.result x) xs) (sym is) (all_inside c.reach-around.result test c.in_ok-cells.ensures.whole.order)

pub returns : goal.returns
returns c =
    let test : IVec → Bool = is_shaped (tagging c.args.problem.now c.args.w.now) in
    let is = c.as_slice-2.ensures.value ∙ c.in_ok-shaped.ensures ∙ ap (λ (xs : List IVec). filter test xs) (c.as_slice.ensures.value ∙ c.in_ok-cells.ensures.value) in
    let around = c.reach-around.ensures ∙ ap (λ (n : ℕ). grown (whole (frame_at c.args.problem.now n)) c.args.problem.now.tag_buffer) (ap (λ (w : Pass). w.number) c.w.view_is) in
    λ x.
    c.in_ok-field.ensures.cells x
    ∙ ap (λ (xs : List IVec). list_any (λ y. holds (one_cell y) x) xs) is
    ∙ picked c.reach-around.result test x c.in_ok-cells.ensures.whole.order
    ∙ ap (λ (b : Corners). holds b x && test x) around

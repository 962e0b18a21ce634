use Rattle.std.proofs.Common.{◌∙◌, ap, sym, subst, ℕ, List}
use Rattle.samr_box.specs.Corners.{Holds}
use Rattle.samr_box.specs.Space.{whole}
use Rattle.samr_level.specs.Refs.{Owned}
use Rattle.samr_tags.specs.Buffer.{in_level}
use Rattle.samr_mesh.specs.Domains.{frame_at}
use Rattle.samr_mesh.specs.Passes.{Pass}
use Rattle.samr_mesh_plain.proofs.TagFacts.{cell_home}
use Rattle.samr_mesh_plain.proofs.shaped.is_shaped.Goals as goal

pub shape_at-requires-clause-cell : goal.shape_at-requires-clause-cell
shape_at-requires-clause-cell c =
    let x = c.wrap-x.result in
    subst (λ (n : ℕ). Holds (whole (frame_at c.args.problem.now n)) x) (sym (ap (λ (w : Pass). w.number) c.w.view_is))
    (cell_home c.args.problem.now c.args.w.now x c.accepted.ensures c.requires
    (sym (ap (λ (l : List Owned). in_level l x) c.boxes.ensures) ∙ sym c.in_level.ensures ∙ c.if-not-in_level.false))

-- The steps of `updated_patch`.
use Rattle.std.proofs.Common.{◌≡◌, ◌∙◌, sym, ap, subst, rules, map, sum}
use Rattle.std.specs.Prelude.{true, if◌then◌else◌}
use Rattle.samr_box.specs.declared.vector.IVec.{IVec}
use Rattle.samr_box.specs.Corners.{Corners, holds_box, holds}
use Rattle.samr_data.specs.Grids.{Grid, over, grid_of, value_at}
use Rattle.samr_ops.specs.Rules.{updated_value}
use Rattle.samr_values.proofs.Faces.{holds_self, all_written}
use Rattle.samr_values.specs.Updating.{faces}
use Rattle.samr_values.proofs.update.updated_patch.Goals as goal

pub write_cells-requires-clause-into : goal.write_cells-requires-clause-into
write_cells-requires-clause-into g c =
    let whole : over c.in_ok-out.out ≡ c.over-whole.result =
    ap over c.in_ok-out.ensures ∙ ap over c.patch.view_is ∙ sym c.over-whole.ensures.value in
    subst (λ (b : Corners). holds_box b c.over-whole.result ≡ true) (sym whole) (holds_self c.over-whole.result)

pub returns : goal.returns
returns g c =
    let p = c.args.patch.now in
    let f = λ (x : IVec). (if holds p.bx x then updated_value c.args.strategy.now (value_at p x) (sum (map (λ y. value_at p y) (faces c.args.dim x))) else value_at p x) in
    all_written p c.in_ok-out.out c.write_cells.new.self c.over-whole.result f c.over-whole.ensures.grid
    (c.in_ok-out.ensures ∙ ap (λ (p : Grid). grid_of p.bx p.width (λ _. 0)) c.patch.view_is)
    c.over-whole.ensures.value
    (c.write_cells.ensures f (λ x y h e. search rules))

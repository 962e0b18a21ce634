use Rattle.std.proofs.Common.{◌≡◌, ◌∙◌, sym, ap, subst, rules}
use Rattle.std.specs.Prelude.{true}
use Rattle.samr_box.specs.Corners.{Corners, holds_box}
use Rattle.samr_data.specs.Grids.{Grid, over, grid_of}
use Rattle.samr_fill.specs.Ending.{ended_at}
use Rattle.samr_fill.proofs.Copies.{holds_self, all_written}
use Rattle.samr_linear.proofs.ending.ended.Goals as goal

pub write_cells-requires-clause-into : goal.write_cells-requires-clause-into
write_cells-requires-clause-into g c =
    let whole : over c.in_ok-out.out ≡ c.over-whole.result =
    ap over c.in_ok-out.ensures ∙ ap over c.patch.view_is ∙ sym c.over-whole.ensures.value in
    subst (λ (b : Corners). holds_box b c.over-whole.result ≡ true) (sym whole) (holds_self c.over-whole.result)

pub returns : goal.returns
returns g c =
    let f = ended_at c.args.plan.now c.args.inside.now c.args.field c.args.strategy.now c.args.patch.now in
    all_written c.args.patch.now c.in_ok-out.out c.write_cells.new.self c.over-whole.result f c.over-whole.ensures.grid
    (c.in_ok-out.ensures ∙ ap (λ (p : Grid). grid_of p.bx p.width (λ _. 0)) c.patch.view_is)
    c.over-whole.ensures.value
    (c.write_cells.ensures f (λ x y h e. search rules))

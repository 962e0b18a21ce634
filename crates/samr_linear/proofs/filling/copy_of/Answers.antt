use Rattle.std.proofs.Common.{◌≡◌, ◌∙◌, ap, subst}
use Rattle.std.specs.Prelude.{true, pos}
use Rattle.samr_box.specs.Vector.{alike, AtMost}
use Rattle.samr_box.specs.Corners.{Corners, IsBox, holds_box}
use Rattle.samr_data.specs.Places.{moved_back}
use Rattle.samr_data.specs.Grids.{Grid, over, grid_of, written, copied, moved_values}
use Rattle.samr_fill.proofs.Copies.{box_inside, box_still, copy_is}
use Rattle.samr_linear.proofs.filling.copy_of.Goals as goal

pub copy_region-requires-clause-into : goal.copy_region-requires-clause-into
copy_region-requires-clause-into c =
    box_inside c.in_ok-copy.copy c.patch.inside.bx c.patch.inside.width c.patch.invariant.positive c.in_ok-copy.ensures

pub copy_region-requires-clause-out : goal.copy_region-requires-clause-out
copy_region-requires-clause-out c =
    let whole = subst (λ (b : Corners). IsBox b) c.bx.view_is c.bx.invariant in
    subst (λ (p : Grid). holds_box (over p) (moved_back c.patch.inside.bx c.alike.result) ≡ true) c.patch.view_is
    (box_still c.patch.inside.bx c.patch.inside.width c.alike.result whole.order c.patch.invariant.positive c.alike.ensures)

pub returns : goal.returns
returns c =
    let p = c.args.patch.now in
    copy_is p c.in_ok-copy.copy c.copy_region.new.self c.alike.result
    (subst (λ (q : Grid). AtMost (alike (pos 0)) q.width) c.patch.view_is c.patch.invariant.positive)
    (c.in_ok-copy.ensures ∙ ap (λ (q : Grid). grid_of q.bx q.width (λ _. 0)) c.patch.view_is)
    c.alike.ensures
    (c.copy_region.ensures ∙ ap (λ (q : Grid). written c.in_ok-copy.copy (copied c.in_ok-copy.copy q.bx (moved_values p c.alike.result))) c.patch.view_is)

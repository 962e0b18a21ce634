use Rattle.std.proofs.Common.{ap, ◌∙◌, filter}
use Rattle.std.specs.Prelude.{List}
use Rattle.samr_box.specs.Corners.{Corners, meets}
use Rattle.samr_box.specs.Space.{whole}
use Rattle.samr_level.specs.RefOrders.{ref_cmp, in_order}
use Rattle.samr_level.specs.Blocks.{blocks_in, with_owners, level0}
use Rattle.samr_level.proofs.Level0Laws.{all_in_frame, IsLevel-level0, cells-level0}
use Rattle.samr_level.proofs.blocks.whole_level0.Goals as goal

pub returns-clause-value : goal.returns-clause-value
unfolding level0
returns-clause-value c =
    let region = c.args.region.now in
    let boxes = c.as_slice.ensures.value ∙ c.in_ok-boxes.ensures.boxes in
    let window = c.over-everywhere.ensures ∙ c.whole.ensures.value ∙ ap whole c.frame.ensures in
    c.in_level_order-level.ensures
    ∙ ap (in_order ref_cmp)
    (c.in_ok-members.ensures
    ∙ ap (λ (w : Corners). filter (λ b. meets w b.bx) (with_owners c.args.ranks (blocks_in c.args.block c.as_slice.result.now))) window
    ∙ ap (λ (bs : List Corners). filter (λ b. meets (whole region.frame) b.bx) (with_owners c.args.ranks (blocks_in c.args.block bs))) boxes
    ∙ all_in_frame region c.args.block c.args.ranks c.in_ok-boxes.ensures.area c.requires)

pub returns-clause-level : goal.returns-clause-level
returns-clause-level c = rw (returns-clause-value c) (IsLevel-level0 c.args.region.now c.args.block c.args.ranks c.in_ok-boxes.ensures.area c.requires)

pub returns-clause-cells : goal.returns-clause-cells
returns-clause-cells c = rw (returns-clause-value c) (cells-level0 c.args.region.now c.args.block c.args.ranks c.in_ok-boxes.ensures.area c.requires)

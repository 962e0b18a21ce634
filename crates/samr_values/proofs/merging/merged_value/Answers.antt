use Rattle.std.proofs.Common.{◌∙◌, ap, arith, length}
use Rattle.samr_box.specs.Ratios.{refined}
use Rattle.samr_data.specs.Places.{one_cell}
use Rattle.samr_data.specs.Grids.{value_at, over}
use Rattle.samr_data.proofs.Lists.{length-listed}
use Rattle.samr_values.proofs.Written.{inside_over}
use Rattle.samr_values.proofs.Merges.{part_box, one_full, few_children}
use Rattle.samr_values.proofs.merging.merged_value.Goals as goal

pub refine-requires : goal.refine-requires
refine-requires c =
    let ratio = rw c.factors.ensures.value at c.factors.ensures.ratio in
    let p = c.args.patch.now in
    let b = refined (one_cell c.args.x) c.args.m.now.step in
    rw c.one_cell.ensures (part_box (over p) b c.over.ensures.grid.whole (inside_over p b c.over.ensures.grid c.requires.inside) (one_full c.args.x c.args.m.now.step ratio))

pub pack-requires : goal.pack-requires
pack-requires c =
    rw (c.refine.ensures.value, c.one_cell.ensures) (inside_over c.args.patch.now (refined (one_cell c.args.x) c.args.m.now.step) c.over.ensures.grid c.requires.inside)

pub coarsen_values-requires-clause-few : goal.coarsen_values-requires-clause-few
coarsen_values-requires-clause-few c =
    let ratio = rw c.factors.ensures.value at c.factors.ensures.ratio in
    let b = refined (one_cell c.args.x) c.args.m.now.step in
    let same = c.as_slice.ensures.value ∙ c.in_ok-values.ensures in
    let count = ap length (rw (c.refine.ensures.value, c.one_cell.ensures) at same) ∙ length-listed b (value_at c.args.patch.now) in
    let few = few_children c.args.x c.args.m.now.step ratio in
    omega (arith, count, few)

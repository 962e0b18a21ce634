use Rattle.std.proofs.Common.{◌∙◌, subst, arith}
use Rattle.samr_box.specs.Vector.{AtMost}
use Rattle.samr_box.specs.Corners.{Corners}
use Rattle.samr_data.specs.Grids.{value_at}
use Rattle.samr_data.specs.Values.{listed}
use Rattle.samr_values.specs.Merging.{merged_by}
use Rattle.samr_values.proofs.Merges.{region_few, children_inside, one_more_value, all_values, all_taken}
use Rattle.samr_values.proofs.merging.merged_values.Goals as goal

pub cells-n-end-requires : goal.cells-n-end-requires
cells-n-end-requires c =
    let order : AtMost c.args.region.lo c.args.region.hi = subst (λ (r : Corners). AtMost r.lo r.hi) c.region.view_is c.region.invariant.order in
    let ratio = rw c.factors.ensures.value at c.factors.ensures.ratio in
    let few = region_few c.args.patch.now c.args.region c.args.m.now.step c.over.ensures.grid ratio order c.requires.inside in
    omega (arith, few)

pub merged_value-requires-clause-inside : goal.merged_value-requires-clause-inside
merged_value-requires-clause-inside c =
    let ratio = rw c.factors.ensures.value at c.factors.ensures.ratio in
    children_inside c.args.patch.now.bx c.args.region c.cell_at.result c.args.m.now.step ratio c.cell_at.ensures.inside c.requires.inside

pub loop-n-preserved : goal.loop-n-preserved
loop-n-preserved c =
    let order : AtMost c.args.region.lo c.args.region.hi = subst (λ (r : Corners). AtMost r.lo r.hi) c.region.view_is c.region.invariant.order in
    let below = rw c.cells-n-end.ensures.value at c.loop-n-test.true in
    one_more_value c.args.region (merged_by c.args.m.now (value_at c.args.patch.now)) c.loop-n.n c.cell_at.result c.in_ok-merged_value.field-0 c.loop-n.values.items
    c.push.new.self.items order below c.cell_at.ensures.value c.in_ok-merged_value.ensures c.loop-n.invariant c.in_ok-push.ensures.items

pub returns : goal.returns
returns c =
    let end = rw c.cells-n-end.ensures.value at c.loop-n-test.false in
    let list = listed c.args.region (merged_by c.args.m.now (value_at c.args.patch.now)) in
    c.loop-n.invariant ∙ all_taken list c.loop-n.n (all_values c.args.region (merged_by c.args.m.now (value_at c.args.patch.now)) c.loop-n.n end)

use Rattle.std.proofs.Common.{ap, set, subst, ◌∙◌, arith}
use Rattle.samr_box.specs.Vector.{AtMost}
use Rattle.samr_box.specs.Corners.{Corners}
use Rattle.samr_data.proofs.PlaceLaws.{part_cells, part_order, part_Holds}
use Rattle.samr_data.proofs.CellWrites.{cells_start, cells_go_on, cells_end}
use Rattle.samr_data.proofs.writes.write_box.Goals as goal

pub cells-n-end-requires : goal.cells-n-end-requires
cells-n-end-requires g c =
    let order : AtMost c.args.region.lo c.args.region.hi = subst (λ (r : Corners). AtMost r.lo r.hi) c.region.view_is c.region.invariant.order in
    omega (arith, c.requires.few, part_cells c.args.at c.args.region c.requires.into order)

pub loop-n-init : goal.loop-n-init
loop-n-init g c =
    let order : AtMost c.args.region.lo c.args.region.hi = subst (λ (r : Corners). AtMost r.lo r.hi) c.region.view_is c.region.invariant.order in
    λ value post. cells_start c.args.at c.args.region c.args.to.now value (part_order c.args.at c.args.region c.requires.into order) c.requires.full

pub place-requires-clause-inside : goal.place-requires-clause-inside
place-requires-clause-inside g c = part_Holds c.args.at c.args.region c.cell_at-x.result c.requires.into c.cell_at-x.ensures.inside

pub loop-n-preserved : goal.loop-n-preserved
loop-n-preserved g c =
    let order : AtMost c.args.region.lo c.args.region.hi = subst (λ (r : Corners). AtMost r.lo r.hi) c.region.view_is c.region.invariant.order in
    let below = rw c.cells-n-end.ensures.value at c.loop-n-test.true in
    λ value post.
    ap (λ m. set c.loop-n.to m c.f-v.result) c.place.ensures.value
    ∙ cells_go_on c.args.at c.args.region c.args.to.now c.loop-n.to value c.loop-n.n c.cell_at-x.result c.f-v.result order c.requires.into below c.cell_at-x.ensures.value
    (post c.cell_at-x.result c.f-v.result c.cell_at-x.ensures.inside c.f-v.ensures) (c.loop-n.invariant value post)

pub returns : goal.returns
returns g c =
    let order : AtMost c.args.region.lo c.args.region.hi = subst (λ (r : Corners). AtMost r.lo r.hi) c.region.view_is c.region.invariant.order in
    let end = rw c.cells-n-end.ensures.value at c.loop-n-test.false in
    λ value post.
    cells_end c.args.at c.args.region c.args.to.now c.loop-n.to value c.loop-n.n (part_order c.args.at c.args.region c.requires.into order) end (c.loop-n.invariant value post)

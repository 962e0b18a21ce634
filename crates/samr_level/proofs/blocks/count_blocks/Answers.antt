use Rattle.std.proofs.Common.{◌+◌, ap, ◌∙◌, length, take, arith}
use Rattle.std.proofs.lemmas.List.{take_all}
use Rattle.samr_boxlist.proofs.Steps.{take_step}
use Rattle.samr_level.specs.Blocks.{blocks_in}
use Rattle.samr_level.proofs.BlockNumbers.{longer, room}
use Rattle.samr_level.proofs.blocks.count_blocks.Goals as goal

pub overflow_cast-count : goal.overflow_cast-count
overflow_cast-count c =
    let r = room c.args.block c.args.boxes.now c.loop-bx.bx-index c.bx-item.result c.loop-bx-test.true c.bx-item.is in
    omega (arith, r, c.requires.few, c.block_count.ensures.count)

pub overflow_add-count : goal.overflow_add-count
overflow_add-count c =
    let r = room c.args.block c.args.boxes.now c.loop-bx.bx-index c.bx-item.result c.loop-bx-test.true c.bx-item.is in
    omega (arith, r, c.requires.few, c.block_count.ensures.count, c.loop-bx.invariant)

pub loop-bx-preserved : goal.loop-bx-preserved
loop-bx-preserved c =
    let r = room c.args.block c.args.boxes.now c.loop-bx.bx-index c.bx-item.result c.loop-bx-test.true c.bx-item.is in
    let e = longer c.args.block (take c.loop-bx.bx-index c.args.boxes.now) (take (c.loop-bx.bx-index + 1) c.args.boxes.now) c.bx-item.result
    (take_step c.args.boxes.now c.loop-bx.bx-index c.bx-item.result c.loop-bx-test.true c.bx-item.is) in
    omega (arith, r, e, c.requires.few, c.block_count.ensures.count, c.loop-bx.invariant)

pub returns : goal.returns
returns c = c.loop-bx.invariant ∙ ap (λ l. length (blocks_in c.args.block l)) (take_all c.loop-bx.bx-index c.args.boxes.now c.loop-bx-test.false)

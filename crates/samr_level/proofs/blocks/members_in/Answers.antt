use Rattle.std.proofs.Common.{◌+◌, List, ap, ◌∙◌, take, filter, arith}
use Rattle.std.proofs.lemmas.List.{take_all}
use Rattle.samr_box.specs.Corners.{Corners, meets}
use Rattle.samr_boxlist.proofs.Steps.{take_step}
use Rattle.samr_level.specs.Blocks.{blocks_in, with_owners}
use Rattle.samr_level.proofs.BlockNumbers.{numbered, one_box_more, longer, room, length-blocks_of}
use Rattle.samr_level.proofs.blocks.members_in.Goals as goal

pub overflow_cast-blocks : goal.overflow_cast-blocks
overflow_cast-blocks c =
    let r = room c.args.block c.args.boxes.now c.loop-bx.bx-index c.bx-item.result c.loop-bx-test.true c.bx-item.is in
    omega (arith, r, c.requires.few, c.block_count-blocks.ensures.count)

pub overflow_add-first : goal.overflow_add-first
overflow_add-first c =
    let r = room c.args.block c.args.boxes.now c.loop-bx.bx-index c.bx-item.result c.loop-bx-test.true c.bx-item.is in
    omega (arith, r, c.requires.few, c.block_count-blocks.ensures.count, c.loop-bx.invariant.first)

pub invariant_of-cut : goal.invariant_of-cut
invariant_of-cut c =
    let r = room c.args.block c.args.boxes.now c.loop-bx.bx-index c.bx-item.result c.loop-bx-test.true c.bx-item.is in
    let n = length-blocks_of c.args.block c.bx-item.result in
    record {
      bx = c.block_count-blocks.ensures.whole;
      block = record { low = c.requires.low; high = c.requires.high };
      numbers = omega (arith, r, n, c.loop-bx.invariant.first, c.count_blocks-count.ensures);
      few = omega (arith, c.count_blocks-count.ensures, c.requires.few);
    }

pub loop-bx-preserved : goal.loop-bx-preserved
loop-bx-preserved c =
    let step = take_step c.args.boxes.now c.loop-bx.bx-index c.bx-item.result c.loop-bx-test.true c.bx-item.is in
    let e = longer c.args.block (take c.loop-bx.bx-index c.args.boxes.now) (take (c.loop-bx.bx-index + 1) c.args.boxes.now) c.bx-item.result step in
    record {
      out = one_box_more c.args.window
          (record { bx = c.bx-item.result; block = c.args.block; first = c.loop-bx.first; count = c.count_blocks-count.result; ranks = c.args.ranks })
          (take c.loop-bx.bx-index c.args.boxes.now) (take (c.loop-bx.bx-index + 1) c.args.boxes.now) _ _ step
          c.loop-bx.invariant.first c.loop-bx.invariant.out c.in_ok-push_members.ensures;
      first = omega (arith, e, c.block_count-blocks.ensures.count, c.loop-bx.invariant.first);
    }

pub returns : goal.returns
unfolding with_owners
returns c =
    c.loop-bx.invariant.out
    ∙ ap (λ (l : List Corners). filter (λ b. meets c.args.window b.bx) (numbered c.count_blocks-count.result c.args.ranks 0 (blocks_in c.args.block l)))
    (take_all c.loop-bx.bx-index c.args.boxes.now c.loop-bx-test.false)
    ∙ ap (λ n. filter (λ b. meets c.args.window b.bx) (numbered n c.args.ranks 0 (blocks_in c.args.block c.args.boxes.now))) c.count_blocks-count.ensures

use Rattle.std.proofs.Common.{arith}
use Rattle.std.proofs.lemmas.Bool.{false≢true}
use Rattle.samr_level.proofs.BlockNumbers.{room}
use Rattle.samr_level.proofs.blocks.are_few.Goals as goal

pub returns-then-count-ge-MANY : goal.returns-then-count-ge-MANY
returns-then-count-ge-MANY c = (
  λ t. absurd (false≢true t),
  λ few.
      let r = room c.args.block c.args.boxes.now c.loop-bx.bx-index c.bx-item.result c.loop-bx-test.true c.bx-item.is in
      absurd (omega (arith, r, few, c.block_count-count.ensures.count, c.loop-bx.invariant.count, c.if-count-ge-MANY.true)),
)

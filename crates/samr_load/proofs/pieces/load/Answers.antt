use Rattle.std.proofs.Common.{arith, ap}
use Rattle.samr_load.specs.Pieces.{size_of}
use Rattle.samr_load.proofs.TakeSteps.{load_more, load_front}
use Rattle.samr_load.proofs.pieces.load.Goals as goal

pub size-sum-requires : goal.size-sum-requires
size-sum-requires c =
    omega (arith, load_front c.args.list.now c.loop-piece.piece-index c.piece-item.result (omega arith), ap size_of c.piece-item.is, c.requires)

pub overflow_add-sum : goal.overflow_add-sum
overflow_add-sum c =
    omega (arith, load_front c.args.list.now c.loop-piece.piece-index c.piece-item.result (omega arith), ap size_of c.piece-item.is, c.requires, c.size-sum.ensures, c.loop-piece.invariant)

pub loop-piece-preserved : goal.loop-piece-preserved
loop-piece-preserved c =
    omega (arith, load_more c.args.list.now c.loop-piece.piece-index c.piece-item.result (omega arith), ap size_of c.piece-item.is, c.size-sum.ensures, c.loop-piece.invariant)

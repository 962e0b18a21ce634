use Rattle.std.proofs.Common.{arith, ap}
use Rattle.std.proofs.lemmas.Bool.{false≢true}
use Rattle.samr_load.specs.Pieces.{size_of}
use Rattle.samr_load.proofs.TakeSteps.{load_more, load_front}
use Rattle.samr_load.proofs.pieces.is_countable.Goals as goal

pub returns-then-cells-room : goal.returns-then-cells-room
returns-then-cells-room c =
    let front = load_front c.args.list.now c.loop-piece.piece-index c.piece-item.result (omega arith) in
    let size = ap size_of c.piece-item.is in (
      λ e. absurd (false≢true e),
      λ few. absurd (omega (arith, front, size, c.loop-piece.invariant.0, c.wide_size-cells.ensures, c.if-cells-room.true, few)),
    )

pub loop-piece-preserved : goal.loop-piece-preserved
loop-piece-preserved c =
    let more = load_more c.args.list.now c.loop-piece.piece-index c.piece-item.result (omega arith) in
    let size = ap size_of c.piece-item.is in (
      omega (arith, more, size, c.loop-piece.invariant.0, c.wide_size-cells.ensures, c.if-cells-room.false),
      omega (arith, c.if-cells-room.false),
    )

use Rattle.std.proofs.Common.{◌≡◌, ℕ, true, take}
use Rattle.samr_box.specs.declared.vector.IVec.{IVec}
use Rattle.samr_data.specs.Grids.{over}
use Rattle.samr_fill.specs.Writing.{any_takes_from, refined_at, Fixes}
use Rattle.samr_fill.proofs.coarse.write_pieces.Given as goal

abbrev pub invariant-loop-piece : goal.invariant-loop-piece
invariant-loop-piece g l =
    (v : IVec → ℕ) → ((x : IVec) → any_takes_from (over l.source) l.fn.step l.fn.offset l.pieces x ≡ true → refined_at l.strategy l.source l.fn.step l.fn.offset x ≡ v x)
    → Fixes v (any_takes_from (over l.source) l.fn.step l.fn.offset (take l.piece-index l.pieces)) l.fn.patch l.patch

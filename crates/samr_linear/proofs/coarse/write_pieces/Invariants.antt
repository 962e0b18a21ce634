use Rattle.std.proofs.Common.{◌≡◌, ℕ, true, take}
use Rattle.samr_box.specs.declared.vector.IVec.{IVec}
use Rattle.samr_fill.specs.Writing.{any_takes_from, Fixes}
use Rattle.samr_linear.specs.Scratches.{linear_at}
use Rattle.samr_linear.proofs.coarse.write_pieces.Given as goal

abbrev pub invariant-loop-piece : goal.invariant-loop-piece
invariant-loop-piece g l =
    (v : IVec → ℕ) → ((x : IVec) → any_takes_from l.fn.under l.fn.step l.fn.offset l.pieces x ≡ true → linear_at l.stencil l.source l.fn.step l.fn.offset x ≡ v x)
    → Fixes v (any_takes_from l.fn.under l.fn.step l.fn.offset (take l.piece-index l.pieces)) l.fn.patch l.patch

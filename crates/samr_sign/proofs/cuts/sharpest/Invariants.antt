use Rattle.std.proofs.Common.{◌≡◌, filter, map}
use Rattle.std.specs.List.{range_with_len, fold}
use Rattle.samr_sign.specs.Line.{is_turn}
use Rattle.samr_sign.specs.Decide.{sharper, turn_at}
use Rattle.samr_sign.proofs.cuts.sharpest.Given as goal

abbrev pub invariant-loop-place : goal.invariant-loop-place
invariant-loop-place l = l.best ≡ fold sharper l.fn.best (map (turn_at l.axis l.s) (filter (is_turn l.least l.s) (range_with_len 0 l.place)))

use Rattle.std.proofs.Common.{◌≡◌, length, filter, None}
use Rattle.std.specs.List.{range_with_len, fold}
use Rattle.samr_sign.specs.Line.{is_zero_cut, nearer}
use Rattle.samr_sign.proofs.line.zero_cut.Given as goal

abbrev pub invariant-loop-c : goal.invariant-loop-c
invariant-loop-c l = l.best ≡ fold (nearer (length l.s)) None (filter (is_zero_cut l.least l.s) (range_with_len 0 l.c))

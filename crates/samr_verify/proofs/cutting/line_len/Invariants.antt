use Rattle.std.proofs.Common.{◌≡◌, take, drop}
use Rattle.samr_verify.specs.Cutting.{lines_of}
use Rattle.samr_verify.proofs.CuttingLaws.{put_front}
use Rattle.samr_verify.proofs.cutting.line_len.Given as goal

abbrev pub invariant-loop-i : goal.invariant-loop-i
invariant-loop-i l = lines_of l.text ≡ put_front (take l.i l.text) (lines_of (drop l.i l.text))

use Rattle.std.proofs.Common.{◌+◌, ◌≤◌, length}
use Rattle.samr_verify.specs.Gathering.{Fewer}
use Rattle.samr_verify.proofs.VerdictLaws.{Walked}
use Rattle.samr_verify.proofs.verdict.verify_text.Given as goal

abbrev pub invariant-loop-text : goal.invariant-loop-text
invariant-loop-text l = record {
  walked : Walked l.fn.problem l.fn.report l.rest l.standing l.known (l.number + 1);
  fewer : Fewer l.known (l.number + 1);
  counted : l.number + length l.rest ≤ length l.fn.report;
}

abbrev pub decreases-loop-text : goal.decreases-loop-text
decreases-loop-text l = length l.rest

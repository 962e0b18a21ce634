use Rattle.std.proofs.Common.{◌≡◌, take}
use Rattle.samr_problem.specs.Fields.{widest}
use Rattle.samr_problem.proofs.width.widest.Given as goal

abbrev pub invariant-loop-field : goal.invariant-loop-field
invariant-loop-field l = l.width ≡ widest (take l.field-index l.fields)

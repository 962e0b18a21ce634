use Rattle.std.proofs.Common.{refl}
use Rattle.samr_wholes.specs.Bridges.{to_itself}
use Rattle.samr_wholes.proofs.Bridging.{is_to_itself}
use Rattle.samr_connecting.proofs.to_itself.ToItselfStepStepLetterBodyComparedMeetingBridge.begin.Goals as goal

pub returns-clause-plays : goal.returns-clause-plays
returns-clause-plays g c = λ w rank holds visits. record {
  whole = to_itself w.at.setting.problem w.pass;
  part = c.in_ok-stage.ensures w rank holds.0;
  same_ranks = refl;
  same_row = λ from to. refl;
  same_result = λ out gives. gives (is_to_itself w.at.setting.problem w.pass holds.0.0.1.can);
}

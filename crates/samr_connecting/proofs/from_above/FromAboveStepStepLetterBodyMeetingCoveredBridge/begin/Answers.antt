use Rattle.std.proofs.Common.{refl}
use Rattle.samr_msg.specs.Places.{old_above}
use Rattle.samr_wholes.specs.Bridges.{from_above}
use Rattle.samr_connecting.proofs.Sides.{above_bridge, made}
use Rattle.samr_connecting.proofs.from_above.FromAboveStepStepLetterBodyMeetingCoveredBridge.begin.Goals as goal

pub returns-clause-plays : goal.returns-clause-plays
returns-clause-plays g c = λ w rank holds visits. record {
  whole = from_above w.at.setting.problem w.pass (old_above w);
  part = c.in_ok-stage.ensures w rank holds.0 visits;
  same_ranks = refl;
  same_row = λ from to. refl;
  same_result = λ out gives. made _ out _ visits (gives (above_bridge w rank holds.0.0.0.0.problem holds.0.0.0.1 visits));
}

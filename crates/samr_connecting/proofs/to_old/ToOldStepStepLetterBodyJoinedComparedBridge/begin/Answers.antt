use Rattle.std.proofs.Common.{refl}
use Rattle.samr_msg.specs.Places.{old_above}
use Rattle.samr_wholes.specs.Bridges.{to_old}
use Rattle.samr_connecting.proofs.Sides.{old_bridge, made}
use Rattle.samr_connecting.proofs.to_old.ToOldStepStepLetterBodyJoinedComparedBridge.begin.Goals as goal

pub returns-clause-plays : goal.returns-clause-plays
returns-clause-plays g c = λ w rank holds visits. record {
  whole = to_old w.at.setting.problem w.pass (old_above w);
  part = c.in_ok-stage.ensures w rank holds visits;
  same_ranks = refl;
  same_row = λ from to. refl;
  same_result = λ out gives. made _ out _ visits (gives (old_bridge w rank holds.0.0.problem holds.0.1));
}

use Rattle.std.proofs.Common.{refl, ◌-◌}
use Rattle.samr_mesh.specs.Passes.{new_level}
use Rattle.samr_msg.specs.Places.{old_below}
use Rattle.samr_wholes.specs.Bridges.{to_below}
use Rattle.samr_connecting.proofs.Sides.{below_bridge, below_made}
use Rattle.samr_connecting.proofs.to_below.ToBelowStepStepLetterBodyCoveredConnectedBridge.begin.Goals as goal

pub returns-clause-plays : goal.returns-clause-plays
returns-clause-plays g c = λ w rank holds visits.
    let b = holds.0.0.0.0 in record {
      whole = to_below w.at.setting.problem w.pass.ranks (w.pass.number - 1) (new_level w.at.setting.problem w.pass) w.pass.level (old_below w);
      part = c.in_ok-stage.ensures w rank holds.0.0.0 visits;
      same_ranks = refl;
      same_row = λ from to. refl;
      same_result = λ out gives. below_made w rank b.0.problem b.1 visits out (gives (below_bridge w rank b.0.problem b.1 visits));
    }

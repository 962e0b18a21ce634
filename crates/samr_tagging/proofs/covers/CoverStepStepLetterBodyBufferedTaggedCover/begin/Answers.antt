use Rattle.std.proofs.Common.{refl}
use Rattle.samr_mesh.specs.Passes.{covering}
use Rattle.samr_mesh.proofs.Tagged.{covers_can}
use Rattle.samr_wholes.proofs.PassedOn.{tags_on}
use Rattle.samr_tagging.proofs.covers.CoverStepStepLetterBodyBufferedTaggedCover.begin.Goals as goal

pub returns-clause-plays : goal.returns-clause-plays
returns-clause-plays g c = λ w rank holds visits. record {
  whole = covering w.at.setting.problem w.pass;
  part = c.in_ok-stage.ensures w rank holds.0 visits holds.1;
  same_ranks = refl;
  same_row = λ from to. refl;
  same_result = λ out gives. tags_on w.at.setting.problem w.pass rank out (gives (covers_can w.at.setting.problem w.pass holds.0.1.can holds.0.1.above).0);
}

use Rattle.std.proofs.Common.{refl}
use Rattle.samr_mesh.specs.Passes.{tagging}
use Rattle.samr_mesh.proofs.Tagged.{tags_can}
use Rattle.samr_tagging.proofs.shapes.BufferStepStepLetterBodyBaseBufferedBuffer.begin.Goals as goal

pub returns-clause-plays : goal.returns-clause-plays
returns-clause-plays g c = λ w rank holds visits. record {
  whole = tagging w.at.setting.problem w.pass;
  part = c.in_ok-stage.ensures w rank holds;
  same_ranks = refl;
  same_row = λ from to. refl;
  same_result = λ out gives. gives (tags_can w.at.setting.problem w.pass holds.1.can);
}

use Rattle.samr_wholes.proofs.PassedOn.{tags_alone}
use Rattle.samr_tagging.proofs.CoverStarts.{none_above}
use Rattle.samr_tagging.proofs.covers.CoverStepStepLetterBodyBufferedTaggedCover.skip.Goals as goal

pub returns-clause-after : goal.returns-clause-after
returns-clause-after g c = λ w rank holds silent.
    (holds.0, tags_alone w.at.setting.problem w.pass rank c.args.input.fields (none_above w.pass.above silent) holds.1)

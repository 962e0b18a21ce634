use Rattle.std.specs.Prelude.{codes}
use Rattle.samr_verify.specs.Reading.{heading, silent}
use Rattle.samr_verify.proofs.ReadLaws.{lacks, first_lacks, second_lacks, both_read}
use Rattle.samr_verify.proofs.PartLaws.{silent_parts}
use Rattle.samr_verify.proofs.LineLaws.{tells_lacks, tells_ended, silent_lacks, silent_reads}
use Rattle.samr_verify.proofs.meaning.silent_line.Goals as goal

pub returns-in_err-heading : goal.returns-in_err-heading
returns-in_err-heading c =
    tells_lacks _ c.from_residual.ensures
    (first_lacks (heading (codes "probe")) silent c.args.text.now silent_parts (lacks _ _ c.headed_first.ensures c.in_err-heading.was))

pub returns-in_err-rest : goal.returns-in_err-rest
returns-in_err-rest c =
    tells_lacks _ c.from_residual-in_err-rest.ensures
    (second_lacks (heading (codes "probe")) silent c.args.text.now silent_parts c.in_ok-heading.heading.0 c.in_ok-heading.heading.1.now c.in_ok-heading.ensures
    (silent_lacks c.in_ok-heading.heading.1.now _ _ c.behind.ensures.each c.in_err-rest.was))

pub returns : goal.returns
returns c =
    tells_ended (c.in_ok-heading.heading.0, tt) c.in_ok-rest.rest.now c.ended.result
    (both_read (heading (codes "probe")) silent c.args.text.now silent_parts c.in_ok-heading.heading.0 c.in_ok-heading.heading.1.now c.in_ok-heading.ensures tt c.in_ok-rest.rest.now
    (silent_reads c.in_ok-heading.heading.1.now c.in_ok-rest.rest.now c.in_ok-rest.ensures.some c.in_ok-rest.ensures.each))
    c.ended.ensures.some c.ended.ensures.each

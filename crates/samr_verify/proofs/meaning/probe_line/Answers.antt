use Rattle.std.specs.Prelude.{codes}
use Rattle.samr_verify.specs.Reading.{count, heading}
use Rattle.samr_verify.proofs.ReadLaws.{both_read, first_lacks, lacks, second_lacks}
use Rattle.samr_verify.proofs.PartLaws.{count_parts}
use Rattle.samr_verify.proofs.LineLaws.{tells_lacks, tells_ended}
use Rattle.samr_verify.proofs.meaning.probe_line.Goals as goal

pub returns-in_err-heading : goal.returns-in_err-heading
returns-in_err-heading c =
    tells_lacks _ c.from_residual.ensures
    (first_lacks (heading (codes "probe")) count c.args.text.now count_parts (lacks _ _ c.headed_first.ensures c.in_err-heading.was))

pub returns-in_err-value : goal.returns-in_err-value
returns-in_err-value c =
    tells_lacks _ c.from_residual-in_err-value.ensures
    (second_lacks (heading (codes "probe")) count c.args.text.now count_parts c.in_ok-heading.heading.0 c.in_ok-heading.heading.1.now c.in_ok-heading.ensures
    (lacks _ _ c.count_first.ensures c.in_err-value.was))

pub returns : goal.returns
returns c =
    tells_ended (c.in_ok-heading.heading.0, c.in_ok-value.value.0) c.in_ok-value.value.1.now c.ended.result
    (both_read (heading (codes "probe")) count c.args.text.now count_parts c.in_ok-heading.heading.0 c.in_ok-heading.heading.1.now c.in_ok-heading.ensures c.in_ok-value.value.0 c.in_ok-value.value.1.now
    c.in_ok-value.ensures)
    c.ended.ensures.some c.ended.ensures.each

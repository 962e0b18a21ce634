use Rattle.std.proofs.Common.{refl}
use Rattle.std.specs.Prelude.{codes}
use Rattle.samr_verify.specs.Reading.{and_then, count, joined, heading}
use Rattle.samr_verify.proofs.ReadLaws.{both_read, first_lacks, lacks, lacks_none, second_lacks}
use Rattle.samr_verify.proofs.PartLaws.{count_parts, joined_tail}
use Rattle.samr_verify.proofs.LineLaws.{tells_lacks, tells_ended}
use Rattle.samr_verify.proofs.meaning.coarse_line.Goals as goal

pub returns-in_err-heading : goal.returns-in_err-heading
returns-in_err-heading c =
    tells_lacks _ c.from_residual.ensures
    (first_lacks (heading (codes "coarse")) (and_then joined count) c.args.text.now joined_tail (lacks _ _ c.headed_first.ensures c.in_err-heading.was))

pub returns-in_default : goal.returns-in_default
returns-in_default c =
    tells_lacks _ refl
    (second_lacks (heading (codes "coarse")) (and_then joined count) c.args.text.now joined_tail c.in_ok-heading.heading.0 c.in_ok-heading.heading.1.now c.in_ok-heading.ensures
    (first_lacks joined count c.in_ok-heading.heading.1.now count_parts (lacks_none c.in_default.ensures)))

pub returns-in_err-cells : goal.returns-in_err-cells
returns-in_err-cells c =
    tells_lacks _ c.from_residual-in_err-cells.ensures
    (second_lacks (heading (codes "coarse")) (and_then joined count) c.args.text.now joined_tail c.in_ok-heading.heading.0 c.in_ok-heading.heading.1.now c.in_ok-heading.ensures
    (second_lacks joined count c.in_ok-heading.heading.1.now count_parts (c.in-Some.ends.0, (c.in-Some.ends.1, c.in-Some.ends.2)) c.in-Some.ends.3.now c.in-Some.ensures
    (lacks _ _ c.count_first.ensures c.in_err-cells.was)))

pub returns : goal.returns
returns c =
    tells_ended (c.in_ok-heading.heading.0, ((c.in-Some.ends.0, (c.in-Some.ends.1, c.in-Some.ends.2)), c.in_ok-cells.cells.0)) c.in_ok-cells.cells.1.now c.ended.result
    (both_read (heading (codes "coarse")) (and_then joined count) c.args.text.now joined_tail c.in_ok-heading.heading.0 c.in_ok-heading.heading.1.now c.in_ok-heading.ensures ((c.in-Some.ends.0, (c.in-Some.ends.1, c.in-Some.ends.2)), c.in_ok-cells.cells.0) c.in_ok-cells.cells.1.now
    (both_read joined count c.in_ok-heading.heading.1.now count_parts (c.in-Some.ends.0, (c.in-Some.ends.1, c.in-Some.ends.2)) c.in-Some.ends.3.now c.in-Some.ensures c.in_ok-cells.cells.0 c.in_ok-cells.cells.1.now
    c.in_ok-cells.ensures))
    c.ended.ensures.some c.ended.ensures.each

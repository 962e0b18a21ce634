use Rattle.std.proofs.Common.{refl}
use Rattle.std.specs.Prelude.{codes}
use Rattle.samr_verify.specs.Reading.{and_then, count, boxed, heading}
use Rattle.samr_verify.proofs.ReadLaws.{both_read, first_lacks, lacks, lacks_none, second_lacks}
use Rattle.samr_verify.proofs.PartLaws.{boxed_tail, count_parts}
use Rattle.samr_verify.proofs.LineLaws.{tells_lacks, tells_ended}
use Rattle.samr_verify.proofs.meaning.sum_line.Goals as goal

pub returns-in_err-heading : goal.returns-in_err-heading
returns-in_err-heading c =
    tells_lacks _ c.from_residual.ensures
    (first_lacks (heading (codes "sum")) (and_then boxed count) c.args.text.now boxed_tail (lacks _ _ c.headed_first.ensures c.in_err-heading.was))

pub returns-in_default : goal.returns-in_default
returns-in_default c =
    tells_lacks _ refl
    (second_lacks (heading (codes "sum")) (and_then boxed count) c.args.text.now boxed_tail c.in_ok-heading.heading.0 c.in_ok-heading.heading.1.now c.in_ok-heading.ensures
    (first_lacks boxed count c.in_ok-heading.heading.1.now count_parts (lacks_none c.in_default.ensures)))

pub returns-in_err-sum : goal.returns-in_err-sum
returns-in_err-sum c =
    tells_lacks _ c.from_residual-in_err-sum.ensures
    (second_lacks (heading (codes "sum")) (and_then boxed count) c.args.text.now boxed_tail c.in_ok-heading.heading.0 c.in_ok-heading.heading.1.now c.in_ok-heading.ensures
    (second_lacks boxed count c.in_ok-heading.heading.1.now count_parts c.in-Some.base.0 c.in-Some.base.1.now c.in-Some.ensures
    (lacks _ _ c.count_first.ensures c.in_err-sum.was)))

pub returns : goal.returns
returns c =
    tells_ended (c.in_ok-heading.heading.0, (c.in-Some.base.0, c.in_ok-sum.sum.0)) c.in_ok-sum.sum.1.now c.ended.result
    (both_read (heading (codes "sum")) (and_then boxed count) c.args.text.now boxed_tail c.in_ok-heading.heading.0 c.in_ok-heading.heading.1.now c.in_ok-heading.ensures (c.in-Some.base.0, c.in_ok-sum.sum.0) c.in_ok-sum.sum.1.now
    (both_read boxed count c.in_ok-heading.heading.1.now count_parts c.in-Some.base.0 c.in-Some.base.1.now c.in-Some.ensures c.in_ok-sum.sum.0 c.in_ok-sum.sum.1.now
    c.in_ok-sum.ensures))
    c.ended.ensures.some c.ended.ensures.each

use Rattle.samr_verify.specs.Reading.{boxed, shift, and_then}
use Rattle.samr_verify.proofs.PartLaws.{shift_parts, end_parts}
use Rattle.samr_verify.proofs.ReadLaws.{lacks_none, reads_none, first_lacks, second_lacks, both_read}
use Rattle.samr_verify.proofs.reading.joined_first.Goals as goal

pub returns-in_default : goal.returns-in_default
returns-in_default c =
    reads_none (first_lacks boxed (and_then boxed shift) c.args.text.now end_parts (lacks_none c.in_default.ensures))

pub returns-in_default-box_first : goal.returns-in_default-box_first
returns-in_default-box_first c =
    reads_none (second_lacks boxed (and_then boxed shift) c.args.text.now end_parts c.in-Some.base.0 c.in-Some.base.1.now c.in-Some.ensures
    (first_lacks boxed shift c.in-Some.base.1.now shift_parts (lacks_none c.in_default-box_first.ensures)))

pub returns-in_default-shift_first : goal.returns-in_default-shift_first
returns-in_default-shift_first c =
    reads_none (second_lacks boxed (and_then boxed shift) c.args.text.now end_parts c.in-Some.base.0 c.in-Some.base.1.now c.in-Some.ensures
    (second_lacks boxed shift c.in-Some.base.1.now shift_parts c.in-Some-box_first.head.0 c.in-Some-box_first.head.1.now c.in-Some-box_first.ensures
    (lacks_none c.in_default-shift_first.ensures)))

pub returns : goal.returns
returns c =
    both_read boxed (and_then boxed shift) c.args.text.now end_parts c.in-Some.base.0 c.in-Some.base.1.now c.in-Some.ensures
    (c.in-Some-box_first.head.0, c.in-Some-shift_first.shift.0) c.in-Some-shift_first.shift.1.now
    (both_read boxed shift c.in-Some.base.1.now shift_parts c.in-Some-box_first.head.0 c.in-Some-box_first.head.1.now c.in-Some-box_first.ensures
    c.in-Some-shift_first.shift.0 c.in-Some-shift_first.shift.1.now c.in-Some-shift_first.ensures)

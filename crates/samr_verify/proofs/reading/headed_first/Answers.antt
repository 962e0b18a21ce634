use Rattle.std.proofs.Common.{◌∷◌, []}
use Rattle.samr_verify.specs.Reading.{count, behind_word, and_then}
use Rattle.samr_verify.proofs.PartLaws.{count_parts}
use Rattle.samr_verify.proofs.HeadingLaws.{plain_lacks, plain_reads, further_lacks, zero_lacks, further_reads, not_begun}
use Rattle.samr_verify.proofs.ReadLaws.{lacks, reads_of, reads_none, first_lacks, second_lacks, both_read, behind_lacks, behind_reads}
use Rattle.samr_verify.proofs.reading.headed_first.Goals as goal

pub returns-in_err-number : goal.returns-in_err-number
returns-in_err-number c =
    reads_of _ _ c.from_residual.ensures
    (plain_lacks c.args.word.now c.args.text.now (not_begun c.args.text.now c.in_default.ensures.each) (lacks _ _ c.count_behind.ensures c.in_err-number.was))

pub returns-in_default : goal.returns-in_default
returns-in_default c =
    plain_reads c.args.word.now c.args.text.now (not_begun c.args.text.now c.in_default.ensures.each) c.in_ok-number.number c.in_ok-number.rest.now c.in_ok-number.ensures

pub returns-in_err-field : goal.returns-in_err-field
returns-in_err-field c =
    reads_of _ _ c.from_residual-in_err-field.ensures
    (further_lacks c.args.word.now c.args.text.now c.requires c.in-Some.others.now c.in-Some.ensures.some
    (behind_lacks (and_then (behind_word c.args.word.now count) count) (102 ∷ []) c.args.text.now c.in-Some.others.now c.in-Some.ensures.each
    (first_lacks (behind_word c.args.word.now count) count c.in-Some.others.now count_parts (lacks _ _ c.count_behind-2.ensures c.in_err-field.was))))

pub returns-then-field-eq0 : goal.returns-then-field-eq0
returns-then-field-eq0 c =
    reads_none
    (zero_lacks c.args.word.now c.args.text.now c.requires c.in-Some.others.now c.in-Some.ensures.some c.in-Some.ensures.each
    c.in_ok-field.field c.in_ok-field.behind_field.now c.in_ok-field.ensures c.if-field-eq0.true)

pub returns-in_err-number-2 : goal.returns-in_err-number-2
returns-in_err-number-2 c =
    reads_of _ _ c.from_residual-in_err-number-2.ensures
    (further_lacks c.args.word.now c.args.text.now c.requires c.in-Some.others.now c.in-Some.ensures.some
    (behind_lacks (and_then (behind_word c.args.word.now count) count) (102 ∷ []) c.args.text.now c.in-Some.others.now c.in-Some.ensures.each
    (second_lacks (behind_word c.args.word.now count) count c.in-Some.others.now count_parts c.in_ok-field.field c.in_ok-field.behind_field.now c.in_ok-field.ensures
    (lacks _ _ c.count_first.ensures c.in_err-number-2.was))))

pub returns : goal.returns
returns c =
    further_reads c.args.word.now c.args.text.now c.requires c.in-Some.others.now c.in-Some.ensures.some c.in_ok-field.field c.in_ok-number-2.number c.in_ok-number-2.rest.now c.if-field-eq0.false
    (behind_reads (and_then (behind_word c.args.word.now count) count) (102 ∷ []) c.args.text.now c.in-Some.others.now c.in-Some.ensures.each _ c.in-Some.ensures.some
    (both_read (behind_word c.args.word.now count) count c.in-Some.others.now count_parts c.in_ok-field.field c.in_ok-field.behind_field.now c.in_ok-field.ensures
    c.in_ok-number-2.number c.in_ok-number-2.rest.now c.in_ok-number-2.ensures))

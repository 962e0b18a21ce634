use Rattle.samr_verify.specs.Reading.{triple, shift}
use Rattle.samr_verify.proofs.PartLaws.{shift_right, shift_same, shift_wrong, shift_reads}
use Rattle.samr_verify.proofs.ReadLaws.{lacks, reads_of, as_lacks, wrong_lacks}
use Rattle.samr_verify.proofs.reading.shift_first.Goals as goal

pub returns-in_err-numbers : goal.returns-in_err-numbers
returns-in_err-numbers c =
    reads_of _ _ c.from_residual.ensures
    (as_lacks triple shift c.args.text.now (λ s. s) shift_right shift_same (lacks _ _ c.triple_first.ensures c.in_err-numbers.was))

pub returns-in_err-shift : goal.returns-in_err-shift
returns-in_err-shift c =
    reads_of _ _ c.from_residual-in_err-shift.ensures
    (wrong_lacks triple shift c.args.text.now (λ s. s) shift_right shift_same c.in_ok-numbers.numbers c.in_ok-numbers.rest.now c.in_ok-numbers.ensures
    (shift_wrong c.in_ok-numbers.numbers c.shift_at.result c.in_err-shift.was c.shift_at.ensures.each))

pub returns : goal.returns
returns c = shift_reads c.args.text.now c.in_ok-numbers.numbers c.in_ok-numbers.rest.now c.in_ok-numbers.ensures c.in_ok-shift.shift c.in_ok-shift.ensures.some

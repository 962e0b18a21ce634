use Rattle.std.proofs.Common.{ℤ, ◌∷◌, []}
use Rattle.std.specs.Fmt.{signed_decimal}
use Rattle.std.proofs.Common.{◌++◌}
use Rattle.samr_report.specs.Lines.{blank_numbers}
use Rattle.samr_verify.specs.Words.{IsNumber}
use Rattle.samr_verify.specs.Reading.{bare, number, behind_word}
use Rattle.samr_verify.proofs.WordLaws.{one_number}
use Rattle.samr_verify.proofs.ReadLaws.{reads_of, word_lacks, behind_reads, as_lacks, show_reads}
use Rattle.samr_verify.proofs.words.number_first.Goals as goal

pub returns-in_err-others : goal.returns-in_err-others
returns-in_err-others c =
    reads_of _ _ c.from_residual.ensures
    (as_lacks (behind_word (32 ∷ []) bare) number c.args.text.now (λ n. n) (λ n right. right) one_number
    (word_lacks bare (32 ∷ []) c.args.text.now _ _ c.behind.ensures.each c.in_err-others.was))

pub returns : goal.returns
returns c =
    show_reads ℤ IsNumber (λ n. 32 ∷ [] ++ signed_decimal n) (λ n. blank_numbers (n ∷ [])) c.args.text.now one_number _
    (behind_reads bare (32 ∷ []) c.args.text.now c.in_ok-others.others.now c.in_ok-others.ensures.each _ c.in_ok-others.ensures.some c.bare_first.ensures)

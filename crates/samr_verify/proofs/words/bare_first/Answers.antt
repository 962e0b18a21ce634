use Rattle.std.proofs.Common.{sym, ap, ◌∙◌, take, drop}
use Rattle.std.proofs.lemmas.Int.{to_z-of_z}
use Rattle.std.specs.Int.{w64}
use Rattle.samr_verify.proofs.WordLaws.{word_is, too_small, bare_reads}
use Rattle.samr_verify.proofs.ReadLaws.{reads_of, reads_none, some_is}
use Rattle.samr_verify.proofs.words.bare_first.Goals as goal

pub returns-in_err-number : goal.returns-in_err-number
returns-in_err-number c =
    reads_of _ _ c.from_residual.ensures (record {
      none = λ n rest small parted is.
          let word = c.split_at.ensures.front ∙ ap (λ k. take k c.args.text.now) c.word_len.ensures.value ∙ word_is n rest c.args.text.now small parted is in
          let read = c.number_in.ensures.each n small (sym word) in
          absurd (cc (read, c.in_err-number.was));
    })

pub returns-then-number-lt-LEAST : goal.returns-then-number-lt-LEAST
returns-then-number-lt-LEAST c =
    reads_none (record {
      none = λ n rest small parted is.
          let word = c.split_at.ensures.front ∙ ap (λ k. take k c.args.text.now) c.word_len.ensures.value ∙ word_is n rest c.args.text.now small parted is in
          let same = some_is (sym c.in_ok-number.was ∙ c.number_in.ensures.each n small (sym word)) in
          too_small c.in_ok-number.number n small same c.if-number-lt-LEAST.true;
    })

pub returns : goal.returns
returns c =
    let back = c.split_at.ensures.back ∙ ap (λ k. drop k c.args.text.now) c.word_len.ensures.value in
    let front = c.split_at.ensures.front ∙ ap (λ k. take k c.args.text.now) c.word_len.ensures.value in
    bare_reads c.args.text.now c.in_ok-number.number c.split_at.result.0.now c.split_at.result.1.now c.in_ok-number.ensures.fits (sym (to_z-of_z w64 c.in_ok-number.number c.in_ok-number.ensures.fits))
    c.if-number-lt-LEAST.false c.in_ok-number.ensures.some front back
    (λ n small is. some_is (sym c.in_ok-number.was ∙ c.number_in.ensures.each n small is))

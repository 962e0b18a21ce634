use Rattle.std.proofs.Common.{arith, sym, ap, ◌∙◌}
use Rattle.std.specs.Fmt.{decimal}
use Rattle.std.proofs.lemmas.Slice.Eq.{bytes_eq-Decides}
use Rattle.samr_run.proofs.WrittenNumbers.{number-none, number-some, same_number}
use Rattle.samr_run.proofs.words.number_between.Goals as goal

pub returns-in_default-clause-value : goal.returns-in_default-clause-value
returns-in_default-clause-value c =
    sym (number-none c.args.low c.args.high c.args.word.now c.parse.result c.requires c.parse.ensures.value.0
    (λ n is from to writes. c.in_default.not-Ok n is))

pub returns-then-number-low-clause-value : goal.returns-then-number-low-clause-value
returns-then-number-low-clause-value c =
    sym (number-none c.args.low c.args.high c.args.word.now c.parse.result c.requires c.parse.ensures.value.0
    (λ n is from to writes. let same = same_number c.parse.result n c.in-Ok.number is c.in-Ok.is in omega (arith, same)))

pub returns-then-number-high-clause-value : goal.returns-then-number-high-clause-value
returns-then-number-high-clause-value c =
    sym (number-none c.args.low c.args.high c.args.word.now c.parse.result c.requires c.parse.ensures.value.0
    (λ n is from to writes. let same = same_number c.parse.result n c.in-Ok.number is c.in-Ok.is in omega (arith, same)))

pub returns-then-eq-clause-value : goal.returns-then-eq-clause-value
returns-then-eq-clause-value c =
    let same = (bytes_eq-Decides c.format.result.now c.args.word.now).0 (sym c.if-eq.ensures) in
    sym (number-some c.args.low c.args.high c.args.word.now c.parse.result c.in-Ok.number c.requires c.parse.ensures.value.0
    c.in-Ok.is c.if-number-low.false c.if-number-high.false (sym c.format.ensures.text ∙ same))

pub returns-clause-value : goal.returns-clause-value
returns-clause-value c =
    sym (number-none c.args.low c.args.high c.args.word.now c.parse.result c.requires c.parse.ensures.value.0
    (λ n is from to writes.
    let same = same_number c.parse.result n c.in-Ok.number is c.in-Ok.is in
    let text = c.format.ensures.text ∙ sym (ap decimal same) ∙ writes in
    let equal = (bytes_eq-Decides c.format.result.now c.args.word.now).1 text in
    cc (c.if-eq.ensures, equal)))

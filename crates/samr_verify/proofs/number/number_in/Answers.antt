use Rattle.std.proofs.Common.{sym, ap, ◌∙◌}
use Rattle.std.proofs.lemmas.Slice.Eq.{bytes_eq-Decides}
use Rattle.std.specs.Fmt.{signed_decimal}
use Rattle.samr_verify.proofs.NumberLaws.{prints_letters, is_read, held, one_number}
use Rattle.samr_verify.proofs.number.number_in.Goals as goal

pub returns-in_default-clause-each : goal.returns-in_default-clause-each
returns-in_default-clause-each c = λ n small writes. absurd (c.in_default.ensures.cases.0 (prints_letters n c.args.word.now small writes))

pub returns-in_default-parse-clause-each : goal.returns-in_default-parse-clause-each
returns-in_default-parse-clause-each c = λ n small writes.
    absurd (c.in_default-parse.not-Ok n (is_read c.parse.result n c.in-Ok.text.now small c.parse.ensures.value.0 (writes ∙ sym c.in-Ok.ensures.cases.0)))

pub returns-then-eq-clause-each : goal.returns-then-eq-clause-each
returns-then-eq-clause-each c = λ n small writes.
    one_number c.parse.result c.in-Ok-parse.number n small c.in-Ok-parse.is
    (is_read c.parse.result n c.in-Ok.text.now small c.parse.ensures.value.0 (writes ∙ sym c.in-Ok.ensures.cases.0))

pub returns-clause-each : goal.returns-clause-each
returns-clause-each c = λ n small writes.
    let same = held c.parse.result c.in-Ok-parse.number n small c.in-Ok-parse.is
    (is_read c.parse.result n c.in-Ok.text.now small c.parse.ensures.value.0 (writes ∙ sym c.in-Ok.ensures.cases.0)) in
    let text = c.format.ensures.text ∙ ap signed_decimal same ∙ writes ∙ sym c.in-Ok.ensures.cases.0 in
    let equal = (bytes_eq-Decides c.format.result.now c.in-Ok.text.now).1 text in
    cc (c.if-eq.ensures, equal)

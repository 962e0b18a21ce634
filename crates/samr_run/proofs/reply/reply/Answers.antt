use Rattle.std.proofs.Common.{◌≡◌, [], sym, ap, ◌∙◌}
use Rattle.samr_run.specs.Answer.{Answer, command_answer}
use Rattle.samr_run.proofs.AnswerLaws.{answer-bad_words, answer-command, command_answer-ending, if_known, for_known}
use Rattle.samr_run.proofs.reply.reply.Goals as goal

pub returns-in_default-clause-told : goal.returns-in_default-clause-told
returns-in_default-clause-told g c = for_known _ _ (λ input. c.in_ok-bad_words.ensures ∙ sym (answer-bad_words _ input (sym c.in_default.ensures.value)))

pub returns-in_default-clause-some : goal.returns-in_default-clause-some
returns-in_default-clause-some g c = ([], c.in_ok-bad_words.ensures ∙ sym (answer-bad_words _ [] (sym c.in_default.ensures.value)))

pub returns-clause-told : goal.returns-clause-told
returns-clause-told g c =
    if_known _ (λ input. c.in_ok-reply.reply ≡ command_answer input c.in-Some.command) _
    (λ input told. told ∙ sym (answer-command _ input _ (sym c.in-Some.ensures.value)))
    c.in_ok-reply.ensures.told

pub returns-clause-some : goal.returns-clause-some
returns-clause-some g c =
    let some = c.in_ok-reply.ensures.some in
    (some.0, some.1 ∙ sym (answer-command _ some.0 _ (sym c.in-Some.ensures.value)))

pub returns-clause-only : goal.returns-clause-only
returns-clause-only g c =
    let some = c.in_ok-reply.ensures.some in
    λ words. absurd (command_answer-ending some.0 c.in-Some.command (ap (λ (a : Answer). a.ending) (sym some.1) ∙ words))

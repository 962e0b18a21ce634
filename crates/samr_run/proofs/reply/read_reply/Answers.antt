use Rattle.std.proofs.Common.{◌≡◌, List, ℕ, sym, ap, ◌∙◌, take}
use Rattle.samr_problem.specs.Reading.{reading}
use Rattle.samr_report.specs.Level0Text.{check_text}
use Rattle.samr_run.specs.Answer.{answer_of}
use Rattle.samr_run.proofs.AnswerLaws.{checked_is, reading-cut, given, if_known}
use Rattle.samr_run.proofs.reply.read_reply.Goals as goal

pub returns-clause-told : goal.returns-clause-told
returns-clause-told g c =
    if_known _ (λ xs. c.in_ok-input.input.items ≡ take 1048577 xs) _
    (λ xs bytes.
    c.in_ok-check_reply.ensures
    ∙ ap (λ (input : List ℕ). answer_of (λ p. check_text p c.args.ranks) (reading input)) (c.as_slice.ensures.value ∙ bytes)
    ∙ ap (answer_of (λ p. check_text p c.args.ranks)) (reading-cut xs)
    ∙ sym (checked_is xs c.args.ranks))
    (given _ _ _ _ c.in_ok-input.ensures.ok)

pub returns-clause-some : goal.returns-clause-some
returns-clause-some g c = (c.as_slice.result.now, c.in_ok-check_reply.ensures ∙ sym (checked_is c.as_slice.result.now c.args.ranks))

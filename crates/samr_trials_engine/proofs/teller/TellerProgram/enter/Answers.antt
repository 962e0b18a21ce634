use Rattle.std.proofs.Common.{◌∙◌, ap}
use Rattle.samr_trials_engine.proofs.TellingLemmas.{first_tells, second_is_quiet}
use Rattle.samr_trials_engine.proofs.teller.TellerProgram.enter.Goals as goal
use Rattle.samr_trials_engine.proofs.teller.TellerProgram.enter.Goals.{then-self-eq0+in_ok-push, else-self-eq0}

pub returns-clause-letters : goal.returns-clause-letters
returns-clause-letters c =
    let self = c.args.self.now in
    let none = c.new-letters.ensures.items in
    elim c.if-self-eq0.branch [
      | then-self-eq0+in_ok-push w ↦
          rw (ap (λ v. v.items) w.letters-is ∙ w.in_ok-push.ensures.items, none) (first_tells self.number self.rank self.left w.if-self-eq0.true)
      | else-self-eq0 w ↦
          rw (ap (λ v. v.items) w.letters-is ∙ none) (second_is_quiet self.number self.rank self.left c.requires.here w.if-self-eq0.false)
    ]

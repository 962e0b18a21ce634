use Rattle.std.proofs.Common.{ℕ, ap, ◌∙◌, map}
use Rattle.std.proofs.lemmas.List.{take_all}
use Rattle.std.specs.Prelude.{List}
use Rattle.samr_sched.specs.PlansOfParts.{requests_by}
use Rattle.samr_sched.proofs.AskStage.{tells}
use Rattle.samr_sched.proofs.ask.AskStage.letters.Goals as goal

pub returns-clause-letters : goal.returns-clause-letters
returns-clause-letters c = λ w rank h.
    let self = c.args.self.now in
    c.each.invariant
    ∙ ap (λ (l : List ℕ). map (λ to. (to, requests_by self.boxes.items to)) l)
    (take_all c.each.to-index c.deref-to-items.result.now c.each-test.false ∙ c.deref-to-items.ensures.value)
    ∙ tells self.rank self.frame self.below self.step self.boxes.items self.near.items self.under.items self.senders.items self.fixed.items w rank h

use Rattle.std.proofs.Common.{ℕ, ap, ◌∙◌, map}
use Rattle.std.proofs.lemmas.List.{take_all}
use Rattle.std.specs.Prelude.{List}
use Rattle.samr_cluster.specs.DecideRow.{rulings_for}
use Rattle.samr_cluster.proofs.DecideStage.{tells}
use Rattle.samr_cluster.proofs.decide.DecideStage.letters.Goals as goal

pub returns-clause-letters : goal.returns-clause-letters
returns-clause-letters c = λ x rank h.
    let self = c.args.self.now in
    c.each.invariant
    ∙ ap (λ (l : List ℕ). map (λ to. (to, rulings_for to self.judged.items)) l)
    (take_all c.each.to-index c.deref-to-items.result.now c.each-test.false ∙ c.deref-to-items.ensures.value)
    ∙ tells self.rank self.judged.items self.addressees.items self.senders.items x rank h

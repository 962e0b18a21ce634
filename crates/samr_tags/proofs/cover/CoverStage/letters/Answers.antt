use Rattle.std.proofs.Common.{ℕ, ap, ◌∙◌, map}
use Rattle.std.proofs.lemmas.List.{take_all}
use Rattle.std.specs.Prelude.{List}
use Rattle.samr_tags.specs.CoverRow.{needed_of}
use Rattle.samr_tags.proofs.CoverStage.{tells}
use Rattle.samr_tags.proofs.cover.CoverStage.letters.Goals as goal

pub returns-clause-letters : goal.returns-clause-letters
returns-clause-letters c = λ w rank h.
    let self = c.args.self.now in
    c.each.invariant
    ∙ ap (λ (l : List ℕ). map (λ to. (to, needed_of self.needs to self.edges.items)) l)
    (take_all c.each.to-index c.deref-to-items.result.now c.each-test.false ∙ c.deref-to-items.ensures.value)
    ∙ tells self.rank self.needs self.fields self.edges.items self.addressees.items self.senders.items w rank h

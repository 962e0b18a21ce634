use Rattle.std.proofs.Common.{ℕ, ap, ◌∙◌, map}
use Rattle.std.proofs.lemmas.List.{take_all}
use Rattle.std.specs.Prelude.{List}
use Rattle.samr_modify.specs.Entries.{told_to}
use Rattle.samr_modify.proofs.ModifyStage.{tells}
use Rattle.samr_modify.proofs.modify.ModifyStage.letters.Goals as goal

pub returns-clause-letters : goal.returns-clause-letters
returns-clause-letters c = λ w rank h.
    let self = c.args.self.now in
    c.each.invariant
    ∙ ap (λ (l : List ℕ). map (λ to. (to, told_to to self.known.items)) l)
    (take_all c.each.to-index c.deref-to-items.result.now c.each-test.false ∙ c.deref-to-items.ensures.value)
    ∙ tells self.rank self.width self.anchor_ratio self.old_ratio self.forth self.back self.edges.items self.known.items self.addressees.items self.senders.items w rank h

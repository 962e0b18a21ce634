use Rattle.std.proofs.Common.{ℕ, ap, ◌∙◌, map}
use Rattle.std.proofs.lemmas.List.{take_all}
use Rattle.std.specs.Prelude.{List}
use Rattle.samr_tags.specs.Seeing.{told_to}
use Rattle.samr_tags.proofs.BufferStage.{tells}
use Rattle.samr_tags.proofs.buffer.BufferStage.letters.Goals as goal

pub returns-clause-letters : goal.returns-clause-letters
returns-clause-letters c = λ w rank h.
    let self = c.args.self.now in
    c.each.invariant
    ∙ ap (λ (l : List ℕ). map (λ to. (to, told_to to self.own.items)) l)
    (take_all c.each.to-index c.deref-to-items.result.now c.each-test.false ∙ c.deref-to-items.ensures.value)
    ∙ tells self.rank self.frame self.buffer self.boxes.items self.own.items self.peers.items w rank h

use Rattle.std.proofs.Common.{ℕ, ap, ◌∙◌, map}
use Rattle.std.proofs.lemmas.List.{take_all}
use Rattle.std.specs.Prelude.{List}
use Rattle.samr_bridge.specs.BridgeRow.{about}
use Rattle.samr_bridge.proofs.BridgeStage.{tells}
use Rattle.samr_bridge.proofs.bridge.BridgeStage.letters.Goals as goal

pub returns-clause-letters : goal.returns-clause-letters
returns-clause-letters c = λ w rank h.
    let self = c.args.self.now in
    c.each.invariant
    ∙ ap (λ (l : List ℕ). map (λ to. (to, about to self.found.items)) l)
    (take_all c.each.to-index c.deref-to-items.result.now c.each-test.false ∙ c.deref-to-items.ensures.value)
    ∙ tells self.rank self.width self.east_ratio self.west_ratio self.found.items self.addressees.items self.senders.items w rank h

use Rattle.std.proofs.Common.{ap, ◌∙◌, sym}
use Rattle.samr_values.proofs.ValuesRowLaws.{letters_from}
use Rattle.samr_values.proofs.ValuesStart.{has_told}
use Rattle.samr_values.proofs.values.ValuesStage.letters.Goals as goal

pub returns-clause-letters : goal.returns-clause-letters
returns-clause-letters g c = λ w rank h.
    ap (λ v. v.items) c.replace.ensures.value ∙ h.0.same_letters ∙ sym (letters_from w h.0.is rank h.0.within)

pub returns-clause-waits : goal.returns-clause-waits
returns-clause-waits g c = λ w rank h.
    let self = c.args.self.now in
    (has_told self.rank self.step self.boxes.items self.letters.items self.own.items self.senders.items self.strategies.now w rank h.0, h.1)

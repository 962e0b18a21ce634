use Rattle.std.proofs.Common.{◌∙◌, ap, sym, refl}
use Rattle.samr_relay.specs.declared.run.RelayRun.{RelayRun}
use Rattle.samr_relay.proofs.Rounds.{over_is, is_over}
use Rattle.samr_relay.proofs.relay.Relay.total.Goals as goal

pub returns-then-self-deref-clause-over : goal.returns-then-self-deref-clause-over
returns-then-self-deref-clause-over c = λ entered placed.
    let self = c.args.self.now in
    let rounds = ap (λ (r : RelayRun). r.rounds) c.deref.ensures in
    (λ yes. is_over _ self.rank self.round (c.if-self-deref.true ∙ rounds), λ over. refl)

pub returns-else-self-deref-clause-over : goal.returns-else-self-deref-clause-over
returns-else-self-deref-clause-over c = λ entered placed.
    let self = c.args.self.now in
    let rounds = ap (λ (r : RelayRun). r.rounds) c.deref.ensures in
    (λ no. cc, λ over. absurd (c.if-self-deref.false (over_is _ self.rank self.round self.heard placed over ∙ sym rounds)))

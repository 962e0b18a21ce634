use Rattle.std.proofs.Common.{◌∙◌, ap, sym, arith, ◌≡◌, min, ◌-◌}
use Rattle.samr_relay.specs.declared.run.RelayRun.{RelayRun}
use Rattle.samr_relay.specs.Relay.{round_label}
use Rattle.samr_relay.proofs.Rounds.{label_is}
use Rattle.samr_relay.proofs.relay.RelayProgram.label.Goals as goal

pub returns : goal.returns
returns c = λ entered placed.
    let self = c.args.self.now in
    let rounds = ap (λ (r : RelayRun). r.rounds) c.deref.ensures in
    let same : c.min.result ≡ min self.round (c.deref.result.now.rounds - 1) = omega (arith, c.min.ensures, c.saturating_sub.ensures) in
    c.label_of.ensures ∙ ap round_label same ∙ ap (λ n. round_label (min self.round (n - 1))) rounds ∙ sym (label_is _ self.rank self.round)

use Rattle.std.proofs.Common.{◌∙◌, ap, sym}
use Rattle.std.specs.Arc.{arc_value}
use Rattle.samr_relay.specs.declared.run.RelayRun.{RelayRun}
use Rattle.samr_relay.specs.Relay.{hears}
use Rattle.samr_relay.proofs.Letters.{letter_told}
use Rattle.samr_relay.proofs.relay.Relay.tell.Goals as goal

pub of_round-requires : goal.of_round-requires
of_round-requires c =
    let self = c.args.self.now in
    let told = ap (λ (r : RelayRun). hears r self.round c.args.to) (sym c.deref.ensures) ∙ sym c.hears.ensures ∙ c.if-not-hears.false in
    letter_told (arc_value self.run) self.round self.rank c.requires.going_on c.args.to c.requires.tells told

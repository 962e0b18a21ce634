use Rattle.std.proofs.Common.{◌∙◌, ap, sym, map}
use Rattle.std.specs.Arc.{arc_value}
use Rattle.samr_stage.specs.Course.{sent}
use Rattle.samr_relay.specs.declared.run.RelayRun.{RelayRun}
use Rattle.samr_relay.specs.declared.mail.RelayMail.{RelayMail}
use Rattle.samr_relay.specs.Relay.{teller, relay_course}
use Rattle.samr_relay.proofs.Rounds.{is_going_on, label_here}
use Rattle.samr_relay.proofs.Letters.{sent_none}
use Rattle.samr_relay.proofs.relay.RelayProgram.enter.Goals as goal

pub letters-requires-clause-going_on : goal.letters-requires-clause-going_on
letters-requires-clause-going_on c =
    let self = c.args.self.now in
    is_going_on (arc_value self.run) self.rank self.round self.heard c.requires.here c.requires.going_on

pub returns-then-self-teller-clause-letters : goal.returns-then-self-teller-clause-letters
returns-then-self-teller-clause-letters c =
    let self = c.args.self.now in
    let below = is_going_on (arc_value self.run) self.rank self.round self.heard c.requires.here c.requires.going_on in
    c.in_ok-letters.ensures.letters ∙ ap (λ at. sent (relay_course (arc_value self.run)) at self.rank) (sym (label_here (arc_value self.run) self.rank self.round below))

pub returns-clause-letters : goal.returns-clause-letters
returns-clause-letters c =
    let self = c.args.self.now in
    let below = is_going_on (arc_value self.run) self.rank self.round self.heard c.requires.here c.requires.going_on in
    let tells = c.teller.ensures ∙ ap (λ (r : RelayRun). teller r self.round) c.deref.ensures in
    ap (map (λ (letter : RelayMail). letter.name)) c.new.ensures.items ∙ sent_none (arc_value self.run) self.round self.rank below (λ same. c.if-self-teller.false (same ∙ sym tells)) ∙ ap (λ at. sent (relay_course (arc_value self.run)) at self.rank) (sym (label_here (arc_value self.run) self.rank self.round below))

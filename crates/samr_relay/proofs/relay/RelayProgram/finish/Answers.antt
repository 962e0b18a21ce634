use Rattle.std.proofs.Common.{◌≡◌, ◌∙◌, ap, sym, arith, subst, map, All}
use Rattle.samr_relay.specs.declared.mail.RelayMail.{RelayMail}
use Rattle.std.specs.Arc.{arc_value}
use Rattle.samr_stage.specs.Course.{awaited}
use Rattle.samr_relay.specs.Relay.{relay_course}
use Rattle.samr_relay.proofs.Rounds.{is_going_on, label_here, next_fits, next_place}
use Rattle.samr_relay.proofs.relay.RelayProgram.finish.Goals as goal

pub overflow_add-self : goal.overflow_add-self
overflow_add-self c =
    let self = c.args.self.now in
    let run = arc_value self.run in
    let below = is_going_on run self.rank self.round self.heard c.requires.here c.requires.going_on in
    let all = c.requires.ready ∙ ap (λ at. awaited (relay_course run) at self.rank) (label_here run self.rank self.round below) in
    let told = c.number_in.ensures run self.round self.rank c.requires.here.relay below (subst (All (λ (x : RelayMail). arc_value x.run ≡ run)) (sym c.deref.ensures.value) c.requires.held.own) (ap (map (λ (x : RelayMail). x.name)) c.deref.ensures.value ∙ all) in
    let fits = next_fits run self.rank self.round self.heard _ c.requires.here below told in omega (arith, fits)

pub overflow_add-self-2 : goal.overflow_add-self-2
overflow_add-self-2 c =
    let self = c.args.self.now in
    let below = is_going_on (arc_value self.run) self.rank self.round self.heard c.requires.here c.requires.going_on in
    let few = c.requires.here.relay.few in
    omega (arith, below, few)

pub returns-clause-next : goal.returns-clause-next
returns-clause-next c =
    let self = c.args.self.now in
    let run = arc_value self.run in
    let below = is_going_on run self.rank self.round self.heard c.requires.here c.requires.going_on in
    let all = c.requires.ready ∙ ap (λ at. awaited (relay_course run) at self.rank) (label_here run self.rank self.round below) in
    let told = c.number_in.ensures run self.round self.rank c.requires.here.relay below (subst (All (λ (x : RelayMail). arc_value x.run ≡ run)) (sym c.deref.ensures.value) c.requires.held.own) (ap (map (λ (x : RelayMail). x.name)) c.deref.ensures.value ∙ all) in
    next_place run self.rank self.round self.heard _ c.requires.here below told

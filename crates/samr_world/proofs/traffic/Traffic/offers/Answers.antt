use Rattle.std.proofs.Common.{Bool, true, false, List, sym, ◌∙◌, subst}
use Rattle.samr_world.specs.declared.event.Event.{Event}
use Rattle.samr_world.specs.Traffic.{shape_of, Offers}
use Rattle.samr_world.proofs.Offering.{offers_usual, offers_repeats}
use Rattle.samr_world.proofs.traffic.Traffic.offers.Goals as goal

pub returns-then-repeats : goal.returns-then-repeats
returns-then-repeats g c =
    let p = g.P.Program in
    let m = g.P.Mail.Mail in
    let w = shape_of c.args.self.now in
    let count = c.len-places.ensures ∙ c.args.self.now.flight.ok.0 in
    let turns = c.in_ok-events.ensures in
    let Offered : Bool → List Event → Type 0 = λ repeats events. Offers p m w repeats events in
    let usual = subst (Offered false) (sym c.in_ok-add_deliveries.ensures) (offers_usual p m w c.in_ok-events.events.items c.len-places.result count turns.usual turns.enabled turns.none) in
    let all = subst (Offered true) (sym c.in_ok-add_repeats.ensures) (offers_repeats p m w c.add_deliveries.new.events.items c.len-places.result count usual) in
    subst (λ b. Offered b c.add_repeats.new.events.items) (sym c.if-repeats.true) all

pub returns : goal.returns
returns g c =
    let p = g.P.Program in
    let m = g.P.Mail.Mail in
    let w = shape_of c.args.self.now in
    let count = c.len-places.ensures ∙ c.args.self.now.flight.ok.0 in
    let turns = c.in_ok-events.ensures in
    let Offered : Bool → List Event → Type 0 = λ repeats events. Offers p m w repeats events in
    let usual = subst (Offered false) (sym c.in_ok-add_deliveries.ensures) (offers_usual p m w c.in_ok-events.events.items c.len-places.result count turns.usual turns.enabled turns.none) in
    subst (λ b. Offered b c.add_deliveries.new.events.items) (sym c.if-repeats.false) usual

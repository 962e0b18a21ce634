use Rattle.std.proofs.Common.{◌≡◌, [], sym, ap, ◌∙◌, length, arith, eqb-true}
use Rattle.std.proofs.lemmas.Bool.{false≢true}
use Rattle.std.proofs.lemmas.List.{nil_from_length}
use Rattle.samr_world.specs.Traffic.{shape_of}
use Rattle.samr_world.proofs.InPlace.{get_item}
use Rattle.samr_world.proofs.NeverStuck.{all_over}
use Rattle.samr_world.proofs.Offering.{stuck_more, stuck_all, turn_enabled}
use Rattle.samr_world.proofs.traffic.Traffic.next_event.Goals as goal

pub can_turn-requires : goal.can_turn-requires
can_turn-requires g c =
    let here = get_item c.args.self.now.machines.items c.deref-machine-items.result.now c.loop-machine.machine-index c.machine-item.result c.deref-machine-items.ensures.value c.loop-machine-test.true c.machine-item.is in
    (c.requires.stands.1.team c.loop-machine.machine-index c.machine-item.result here).working

pub returns-then-can_turn-clause-enabled : goal.returns-then-can_turn-clause-enabled
returns-then-can_turn-clause-enabled g c =
    let here = get_item c.args.self.now.machines.items c.deref-machine-items.result.now c.loop-machine.machine-index c.machine-item.result c.deref-machine-items.ensures.value c.loop-machine-test.true c.machine-item.is in
    turn_enabled g.P.Program g.P.Mail.Mail (shape_of c.args.self.now) c.requires.stands c.rank.result c.loop-machine.machine-index c.machine-item.result here c.rank.ensures (c.can_turn.ensures.0 c.if-can_turn.true)

pub loop-machine-preserved : goal.loop-machine-preserved
loop-machine-preserved g c =
    let here = get_item c.args.self.now.machines.items c.deref-machine-items.result.now c.loop-machine.machine-index c.machine-item.result c.deref-machine-items.ensures.value c.loop-machine-test.true c.machine-item.is in
    stuck_more g.P.Program g.P.Mail.Mail c.args.self.now.machines.items c.loop-machine.machine-index c.machine-item.result here (λ can. false≢true (sym c.if-can_turn.false ∙ c.can_turn.ensures.1 can)) c.loop-machine.invariant

pub returns-then-is_empty-clause-none : goal.returns-then-is_empty-clause-none
returns-then-is_empty-clause-none g c =
    let p = g.P.Program in
    let m = g.P.Mail.Mail in
    let world = shape_of c.args.self.now in
    let beyond = c.loop-machine-test.false in
    let stuck = stuck_all p m world.machines c.loop-machine.machine-index (omega (arith, ap length c.deref-machine-items.ensures.value)) c.loop-machine.invariant in
    let none = eqb-true _ _ (sym c.is_empty.ensures ∙ c.if-is_empty.true) in
    let no_flight : world.flight ≡ [] = nil_from_length world.flight (sym c.args.self.now.flight.ok.0 ∙ none) in
    all_over p m g.met.P.Mail.Mail.truth g.met.P.Program.on_course c.requires.stands.0 world c.requires.stands.1 c.requires.none_lost no_flight stuck

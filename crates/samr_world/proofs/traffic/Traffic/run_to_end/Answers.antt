use Rattle.std.proofs.Common.{ℕ, ◌+◌, ◌-◌, ◌*◌, ◌<◌, sym, ◌∙◌, subst, arith, eqb-true}
use Rattle.std.proofs.lemmas.List.{nil_from_length}
use Rattle.samr_world.specs.Events.{IsEnabled, IsLossless}
use Rattle.samr_world.specs.Plays.{Runs}
use Rattle.samr_world.specs.Traffic.{shape_of}
use Rattle.samr_world.specs.Weight.{weight}
use Rattle.samr_world.proofs.InPlace.{All-read}
use Rattle.samr_world.proofs.NeverStuck.{all_over}
use Rattle.samr_world.proofs.Offering.{repeat_left, run_shorter, run_longer, none_lost_after}
use Rattle.samr_world.proofs.traffic.Traffic.run_to_end.Goals as goal

pub overflow_sub-left : goal.overflow_sub-left
overflow_sub-left g c =
    let offers = c.in_ok-offers.offers in
    let event = c.index-event.result.now in
    let enough = repeat_left g.P.Program g.P.Mail.Mail (shape_of c.events.self) offers.items c.events.left c.draw-choice.result c.len.result event c.in_ok-offers.ensures c.draw-choice.ensures (c.len.ensures ∙ offers.ok.0) c.index-event.ensures in
    omega (arith, enough, c.repeats_of-left.ensures)

pub returns-then-is_empty-clause-finished : goal.returns-then-is_empty-clause-finished
returns-then-is_empty-clause-finished g c =
    let offers = c.in_ok-offers.offers in
    let world = shape_of c.events.self in
    let so_far = c.events.invariant in
    let none = eqb-true _ _ (sym c.is_empty.ensures ∙ c.if-is_empty.true) in
    let stuck = c.in_ok-offers.ensures.none (nil_from_length offers.items (sym offers.ok.0 ∙ none)) in
    all_over g.P.Program g.P.Mail.Mail g.met.P.Mail.Mail.truth g.met.P.Program.on_course so_far.stands.0 world so_far.stands.1 so_far.none_lost stuck.0 stuck.1

pub events-smaller : goal.events-smaller
events-smaller g c =
    let p = g.P.Program in
    let m = g.P.Mail.Mail in
    let offers = c.in_ok-offers.offers in
    let event = c.index-event.result.now in
    let between = shape_of c.events.self in
    let new = shape_of c.apply.new.self in
    let count = c.len.ensures ∙ offers.ok.0 in
    let enough = repeat_left p m between offers.items c.events.left c.draw-choice.result c.len.result event c.in_ok-offers.ensures c.draw-choice.ensures count c.index-event.ensures in
    let can = All-read (IsEnabled p m between) offers.items c.draw-choice.result c.len.result event c.draw-choice.ensures count c.index-event.ensures c.in_ok-offers.ensures.enabled in
    let happens = c.in_ok-apply.ensures.happens (c.in_ok-apply.ensures.enabled.1 can) in
    let K : ℕ → Type 0 = λ k. weight p m new + 2 * (c.events.left - k) < weight p m between + 2 * c.events.left in
    subst K (sym c.repeats_of-left.ensures) (run_shorter p m g.met.P.Mail.Mail.truth g.met.P.Program.on_course between new event c.events.left can happens enough c.events.invariant.stands)

pub events-preserved : goal.events-preserved
events-preserved g c =
    let p = g.P.Program in
    let m = g.P.Mail.Mail in
    let offers = c.in_ok-offers.offers in
    let event = c.index-event.result.now in
    let old = shape_of c.args.self.now in
    let between = shape_of c.events.self in
    let new = shape_of c.apply.new.self in
    let so_far = c.events.invariant in
    let after = c.in_ok-apply.ensures in
    let count = c.len.ensures ∙ offers.ok.0 in
    let enough = repeat_left p m between offers.items c.events.left c.draw-choice.result c.len.result event c.in_ok-offers.ensures c.draw-choice.ensures count c.index-event.ensures in
    let can = All-read (IsEnabled p m between) offers.items c.draw-choice.result c.len.result event c.draw-choice.ensures count c.index-event.ensures c.in_ok-offers.ensures.enabled in
    let lossless = All-read IsLossless offers.items c.draw-choice.result c.len.result event c.draw-choice.ensures count c.index-event.ensures c.in_ok-offers.ensures.lossless in
    let happens = after.happens (after.enabled.1 can) in
    let K : ℕ → Type 0 = λ k. Runs p m old (c.args.repeats - (c.events.left - k)) new in
    let few = so_far.few in
    record {
      ran = subst K (sym c.repeats_of-left.ensures) (run_longer p m g.met.P.Mail.Mail.truth g.met.P.Program.on_course between new event c.events.left can happens enough old c.args.repeats so_far.few lossless so_far.ran);
      few = omega arith;
      keeps = λ r stands. after.keeps r (so_far.keeps r stands);
      ranks = c.apply.ensures.ranks ∙ so_far.ranks;
      stands = (so_far.stands.0, after.keeps so_far.stands.0 so_far.stands.1);
      none_lost = none_lost_after p m between new event lossless happens ∙ so_far.none_lost;
    }

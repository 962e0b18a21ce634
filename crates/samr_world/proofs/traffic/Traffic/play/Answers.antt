use Rattle.std.proofs.Common.{◌≡◌, ℕ, ◌+◌, ◌≤◌, Bool, true, false, if◌then◌else◌, refl, ◌∙◌, arith}
use mir.Val.{bool_byte}
use Rattle.samr_world.specs.declared.event.Event.TheVariants.{Turn}
use Rattle.samr_world.specs.Traffic.{shape_of}
use Rattle.samr_world.proofs.PlayedEvents.{played_after}
use Rattle.samr_world.proofs.traffic.Traffic.play.Goals as goal

as_number : (b : Bool) → bool_byte b ≡ (if b then 1 else 0)
as_number true = refl
as_number false = refl

at_most_one : (b : Bool) (k n i : ℕ) → k ≡ (if b then 1 else 0) → n ≤ i → n + k ≤ i + 1
at_most_one true k n i one few = omega arith
at_most_one false k n i none few = omega arith

pub loop-event-preserved : goal.loop-event-preserved
loop-event-preserved g c =
    let p = g.P.Program in
    let m = g.P.Mail.Mail in
    let so_far = c.loop-event.invariant in
    let enabled = c.in_ok-apply.field-0 in
    let after = c.in_ok-apply.ensures in
    let count : c.from.result ≡ (if enabled then 1 else 0) = c.from.ensures ∙ as_number enabled in
    record {
      played = played_after p m g.met.P.Mail.Mail.truth g.met.P.Program.on_course (shape_of c.args.self.now) (shape_of c.loop-event.self) (shape_of c.apply.new.self) c.args.events.now c.loop-event.event-index c.loop-event.count c.from.result (Turn 0) enabled
          c.loop-event-test.true so_far.stands so_far.played after.enabled after.disabled after.happens count;
      keeps = λ r stands. after.keeps r (so_far.keeps r stands);
      ranks = c.apply.ensures.ranks ∙ so_far.ranks;
      stands = (so_far.stands.0, after.keeps so_far.stands.0 so_far.stands.1);
      few = at_most_one enabled c.from.result c.loop-event.count c.loop-event.event-index count so_far.few;
    }

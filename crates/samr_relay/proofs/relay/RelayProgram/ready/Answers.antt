use Rattle.std.proofs.Common.{◌∙◌, ap, sym, ℕ, cond, eqb-true, eq-eqb}
use Rattle.samr_relay.specs.declared.run.RelayRun.{RelayRun}
use Rattle.std.specs.Arc.{arc_value}
use Rattle.samr_stage.proofs.HeldLetters.{ready_by_count, count_by_ready}
use Rattle.samr_relay.specs.Relay.{hears, relay_course}
use Rattle.samr_relay.specs.RelayLaws.{relay_is_course}
use Rattle.samr_relay.proofs.Letters.{count_held}
use Rattle.samr_relay.proofs.relay.RelayProgram.ready.Goals as goal

pub returns : goal.returns
returns c =
    let self = c.args.self.now in
    let run = arc_value self.run in
    let count = count_held run self.rank self.round self.heard c.requires.here c.requires.going_on c.awaits.result (c.awaits.ensures ∙ ap (λ (r : RelayRun). cond {A = ℕ} (hears r self.round self.rank) 1 0) c.deref.ensures) in (
      λ same. ready_by_count (λ x. arc_value x.run) (λ x. x.name) (λ x. x.number) relay_course (λ x. x.true_number) run (relay_is_course run c.requires.here.relay) _ _ c.args.held.now c.requires.held (eqb-true _ _ same ∙ count),
      λ all. eq-eqb _ _ (count_by_ready (λ x. x.name) (relay_course run) _ _ c.args.held.now all ∙ sym count),
    )

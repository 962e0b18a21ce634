-- The course of a relay is one: its labels ascend, and its letters go between ranks of the run.
use Rattle.std.specs.Prelude.{◌≡◌, ℕ, ◌+◌, ◌<◌, Bool, true, false, ◌&&◌, nat_eq, nat_lt, Option, Some, None, cond, is_some, IsTrue, map, length, Contains, refl}
use Rattle.std.specs.List.{range_with_len}
use Rattle.std.proofs.Common.{arith, subst, sym, ◌∙◌}
use Rattle.std.proofs.lemmas.Bool.{and_parts, ltb-true, eqb-true}
use Rattle.std.proofs.lemmas.List.FromFn.{get_or-map-range_with_len, length-map-range_with_len}
use Rattle.samr_stage.specs.declared.label.Label.{Label}
use Rattle.samr_stage.specs.Course.{IsCourse}
use Rattle.samr_stage.proofs.RunLemmas.{round_before}
use Rattle.samr_relay.specs.declared.run.RelayRun.{RelayRun}
use Rattle.samr_relay.specs.Relay.{round_label, teller, hears, relay_row, is_round, relay_course, IsRelay}

-- a test that something passes holds
if_some : {X : Type 0} (b : Bool) (o : Option X) → IsTrue (is_some (cond b o None)) → (b ≡ true) × IsTrue (is_some o)
if_some true o there = (refl, there)
if_some false o there = cc

pub teller_below : (run : RelayRun) (round : ℕ) → IsRelay run → teller run round < run.ranks
unfolding teller
teller_below run round relay = let some = relay.some in omega arith

hearer_below : (run : RelayRun) (round to : ℕ) → hears run round to ≡ true → to < run.ranks
unfolding hears
hearer_below run round to is = ltb-true to run.ranks (and_parts (nat_lt to run.ranks) _ is).0

row_parts : (run : RelayRun) (round from to : ℕ) → IsTrue (is_some (relay_row run round from to)) → (from ≡ teller run round) × (hears run round to ≡ true)
unfolding relay_row
row_parts run round from to there =
    let test = (if_some (nat_eq from (teller run round) && hears run round to) (Some (round + 1)) there).0 in
    let parts = and_parts (nat_eq from (teller run round)) _ test in
    (eqb-true _ _ parts.0, parts.1)

label_eta : (at : Label) (run : RelayRun) → is_round run at ≡ true → (at ≡ round_label at.round) × (at.round < run.rounds)
unfolding is_round
label_eta at run is =
    let step = and_parts (nat_eq at.step 0) _ is in
    let pass = and_parts (nat_eq at.pass 0) _ step.1 in
    let phase = and_parts (nat_eq at.phase 0) _ pass.1 in
    (rw (eqb-true at.step 0 step.0, eqb-true at.pass 0 pass.0, eqb-true at.phase 0 phase.0) refl, ltb-true at.round run.rounds phase.1)

visits : (run : RelayRun) (at : Label) → is_round run at ≡ true → Contains (map round_label (range_with_len 0 run.rounds)) at
visits run at is =
    let eta = label_eta at run is in
    let below = eta.1 in
    let within : at.round < length (map round_label (range_with_len 0 run.rounds)) = omega (arith, below, length-map-range_with_len round_label 0 run.rounds) in
    (at.round, within, get_or-map-range_with_len round_label 0 run.rounds at.round at.round at below (omega arith) ∙ sym eta.0)

pub relay_is_course : (run : RelayRun) → IsRelay run → IsCourse (relay_course run)
unfolding relay_course
relay_is_course run relay = record {
  rising = λ rank i j d below within.
      let inside : j < run.rounds = omega (arith, within, length-map-range_with_len round_label 0 run.rounds) in
      let there = get_or-map-range_with_len round_label 0 run.rounds j j d inside (omega arith) in
      let here = get_or-map-range_with_len round_label 0 run.rounds i i d (omega arith) (omega arith) in
      rw (here, there) (round_before 0 0 0 i j below);
  sender = λ n there.
      let parts = if_some (is_round run n.label) (relay_row run n.label.round n.sender n.addressee) there in
      let row = row_parts run n.label.round n.sender n.addressee parts.1 in
      (subst (λ k. k < run.ranks) (sym row.0) (teller_below run n.label.round relay), visits run n.label parts.0);
  addressee = λ n there.
      let parts = if_some (is_round run n.label) (relay_row run n.label.round n.sender n.addressee) there in
      let row = row_parts run n.label.round n.sender n.addressee parts.1 in
      (hearer_below run n.label.round n.addressee row.1, visits run n.label parts.0);
}

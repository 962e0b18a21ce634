use Rattle.std.proofs.Common.{◌≡◌, List, [], ◌∷◌, ◌++◌, sym, ap, ◌∙◌, length, subst, arith, All, length-append}
use Rattle.std.proofs.lemmas.Bool.{false≢true}
use Rattle.std.proofs.lemmas.List.Elements.{All-push}
use Rattle.samr_world.specs.declared.event.Event.{Event}
use Rattle.samr_world.specs.declared.event.Event.TheVariants.{Turn}
use Rattle.samr_world.specs.Events.{IsEnabled, IsUsual}
use Rattle.samr_world.specs.Traffic.{shape_of}
use Rattle.samr_world.proofs.InPlace.{get_item}
use Rattle.samr_world.proofs.Offering.{stuck_more, stuck_all, turn_enabled}
use Rattle.samr_world.proofs.traffic.Traffic.turns.Goals as goal
use Rattle.samr_world.proofs.traffic.Traffic.turns.Goals.{then-can_turn+in_ok-push, else-can_turn}

no_push : {X : Type 0} (xs : List X) (x : X) → xs ++ x ∷ [] ≡ [] → ⊥
no_push xs x e = let none = ap length e in absurd (omega (arith, length-append xs (x ∷ [])))

pub can_turn-requires : goal.can_turn-requires
can_turn-requires g c =
    let here = get_item c.args.self.now.machines.items c.deref-machine-items.result.now c.loop-machine.machine-index c.machine-item.result c.deref-machine-items.ensures.value c.loop-machine-test.true c.machine-item.is in
    (c.requires.1.team c.loop-machine.machine-index c.machine-item.result here).working

pub loop-machine-preserved : goal.loop-machine-preserved
loop-machine-preserved g c =
    let p = g.P.Program in
    let m = g.P.Mail.Mail in
    let world = shape_of c.args.self.now in
    let index = c.loop-machine.machine-index in
    let machine = c.machine-item.result in
    let before = c.loop-machine.turns.items in
    let after = c.if-can_turn.turns.items in
    let so_far = c.loop-machine.invariant in
    let here = get_item world.machines c.deref-machine-items.result.now index machine c.deref-machine-items.ensures.value c.loop-machine-test.true c.machine-item.is in
    elim c.if-can_turn.branch [
      | then-can_turn+in_ok-push w ↦
          let can = c.can_turn.ensures.0 w.if-can_turn.true in
          let turn = turn_enabled p m world c.requires w.rank.result index machine here w.rank.ensures can in
          let items : after ≡ before ++ Turn w.rank.result ∷ [] = ap (λ v. v.items) w.turns-is ∙ w.in_ok-push.ensures.items in
          let Usual : List Event → Type 0 = λ es. All IsUsual es in
          let Enabled : List Event → Type 0 = λ es. All (IsEnabled p m world) es in
          record {
            usual = subst Usual (sym items) (All-push IsUsual before (Turn w.rank.result) so_far.usual tt);
            enabled = subst Enabled (sym items) (All-push (IsEnabled p m world) before (Turn w.rank.result) so_far.enabled turn);
            none = λ empty. absurd (no_push before (Turn w.rank.result) (sym items ∙ empty));
          }
      | else-can_turn w ↦
          let same = ap (λ v. v.items) w.turns-is in
          let Usual : List Event → Type 0 = λ es. All IsUsual es in
          let Enabled : List Event → Type 0 = λ es. All (IsEnabled p m world) es in
          record {
            usual = subst Usual (sym same) so_far.usual;
            enabled = subst Enabled (sym same) so_far.enabled;
            none = λ empty. stuck_more p m world.machines index machine here (λ can. false≢true (sym w.if-can_turn.false ∙ c.can_turn.ensures.1 can)) (so_far.none (sym same ∙ empty));
          }
    ]

pub returns-clause-none : goal.returns-clause-none
returns-clause-none g c = λ empty.
    let beyond = c.loop-machine-test.false in
    stuck_all g.P.Program g.P.Mail.Mail c.args.self.now.machines.items c.loop-machine.machine-index (omega (arith, ap length c.deref-machine-items.ensures.value)) (c.loop-machine.invariant.none empty)

use Rattle.std.proofs.Common.{◌≡◌, ◌∙◌, ap, sym, arith, map, subst, All}
use Rattle.std.proofs.lemmas.List.Elements.{All-nil}
use Rattle.std.specs.Arc.{arc_value}
use Rattle.samr_stage.specs.Course.{name_of, passing}
use Rattle.samr_relay.specs.declared.run.RelayRun.{RelayRun}
use Rattle.samr_relay.specs.declared.mail.RelayMail.{RelayMail}
use Rattle.samr_relay.specs.Relay.{round_label, hears}
use Rattle.samr_relay.proofs.Letters.{names_begin, names_more, sent_all}
use Rattle.samr_relay.proofs.relay.Relay.letters.Goals as goal

pub each-init : goal.each-init
each-init c =
    let self = c.args.self.now in
    let own : RelayMail → Type 0 = λ letter. arc_value letter.run ≡ arc_value self.run in (
      ap (map (λ (letter : RelayMail). letter.name)) c.new-letters.ensures.items ∙ names_begin (λ to. name_of (round_label self.round) self.rank to) (hears (arc_value self.run) self.round),
      subst (All own) (sym c.new-letters.ensures.items) (All-nil own),
    )

pub each-preserved : goal.each-preserved
each-preserved c =
    let self = c.args.self.now in
    (names_more (λ to. name_of (round_label self.round) self.rank to) (hears (arc_value self.run) self.round) c.each.to _ _ c.each.invariant.0 c.in_ok-tell.ensures.letters, c.in_ok-tell.ensures.own c.each.invariant.1)

pub returns-clause-letters : goal.returns-clause-letters
returns-clause-letters c =
    let self = c.args.self.now in
    let ranks = ap (λ (r : RelayRun). r.ranks) c.deref.ensures in
    let all : c.each.to ≡ (arc_value self.run).ranks = omega (arith, ranks, c.each-test.false, c.each.auto.to-end) in
    c.each.invariant.0 ∙ ap (λ n. map (λ to. name_of (round_label self.round) self.rank to) (passing (hears (arc_value self.run) self.round) n)) all ∙ sent_all (arc_value self.run) self.round self.rank c.requires.going_on c.requires.tells

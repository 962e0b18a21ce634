use Rattle.std.proofs.Common.{◌≡◌, ◌<◌, ◌∙◌, sym, arith, length}
use Rattle.std.specs.Prelude.{unsigned_abs}
use Rattle.samr_tree.proofs.OnAllLemmas.{each_more}
use Rattle.samr_balance.specs.Rounds.{going_up, IsPart}
use Rattle.samr_balance.specs.OnAll.{round_at}
use Rattle.samr_balance.proofs.OnAllLaws.{hand_read, after_round_up}
use Rattle.samr_balance.proofs.on_all.go_up_once.Goals as goal

pub start_up-requires-clause-hand : goal.start_up-requires-clause-hand
start_up-requires-clause-hand c =
    let p = c.args.plan.now in
    let w = round_at p.ranks (unsigned_abs p.smallest) p.boxes c.args.round in
    let within : c.each.rank < p.ranks = omega arith in
    hand_read (going_up w) p.ranks c.args.hands.now c.requires c.from.result c.each.rank c.index-hands-from.result c.from.ensures within c.index-hands-from.is

pub each-preserved : goal.each-preserved
each-preserved c =
    let p = c.args.plan.now in
    let w = round_at p.ranks (unsigned_abs p.smallest) p.boxes c.args.round in
    let before = c.each.invariant in (
      omega (arith, c.in_ok-push.ensures.len, before.0),
      each_more (λ k s. IsPart s.rank s.ranks s.round s.hand.items s.needs s.quota s.smallest (going_up w k) w k) c.each.stages.items c.push.new.self.items c.each.rank
          c.in_ok-start_up.field-0 before.0 before.1 c.in_ok-start_up.ensures c.in_ok-push.ensures.items,
    )

pub exchange-requires-clause-parts : goal.exchange-requires-clause-parts
exchange-requires-clause-parts c =
    let p = c.args.plan.now in
    let w = round_at p.ranks (unsigned_abs p.smallest) p.boxes c.args.round in
    let done = c.each.invariant in
    let all : p.ranks ≡ length c.each.stages.items = omega (arith, done.0) in
    (w, record { same_ranks = all; part = done.1 })

pub returns : goal.returns
returns c =
    let p = c.args.plan.now in
    let w = round_at p.ranks (unsigned_abs p.smallest) p.boxes c.args.round in
    let done = c.each.invariant in
    let all : p.ranks ≡ length c.each.stages.items = omega (arith, done.0) in
    after_round_up w p.ranks c.in_ok-after.after.items (c.in_ok-after.ensures.len ∙ sym all) (c.in_ok-after.ensures.outs w (record { same_ranks = all; part = done.1 }))

use Rattle.std.proofs.Common.{◌≡◌, ◌<◌, ◌∙◌, sym, arith, length}
use Rattle.std.specs.Prelude.{unsigned_abs}
use Rattle.samr_tree.specs.Tree.{bottom}
use Rattle.samr_tree.proofs.OnAllLemmas.{each_more}
use Rattle.samr_balance.specs.Rounds.{going_down}
use Rattle.samr_balance.specs.Home.{HasPieces}
use Rattle.samr_balance.specs.OnAll.{homes_of, round_at}
use Rattle.samr_balance.proofs.OnAllLaws.{hand_read, all_home}
use Rattle.samr_balance.proofs.on_all.go_home.Goals as goal

pub start_home-requires-clause-hand : goal.start_home-requires-clause-hand
start_home-requires-clause-hand c =
    let p = c.args.plan.now in
    let w = round_at p.ranks (unsigned_abs p.smallest) p.boxes (bottom p.ranks) in
    let within : c.each.rank < p.ranks = omega arith in
    hand_read (going_down w) p.ranks c.args.hands.now c.requires c.from.result c.each.rank c.index-hands-from.result c.from.ensures within c.index-hands-from.is

pub each-preserved : goal.each-preserved
each-preserved c =
    let p = c.args.plan.now in
    let w = homes_of p.ranks (unsigned_abs p.smallest) p.boxes in
    let before = c.each.invariant in (
      omega (arith, c.in_ok-push.ensures.len, before.0),
      each_more (λ k s. HasPieces s.rank s.ranks s.pieces.items s.olds.items w k) c.each.stages.items c.push.new.self.items c.each.rank
          c.in_ok-start_home.field-0 before.0 before.1 c.in_ok-start_home.ensures c.in_ok-push.ensures.items,
    )

pub exchange-requires-clause-parts : goal.exchange-requires-clause-parts
exchange-requires-clause-parts c =
    let p = c.args.plan.now in
    let w = homes_of p.ranks (unsigned_abs p.smallest) p.boxes in
    let done = c.each.invariant in
    let all : p.ranks ≡ length c.each.stages.items = omega (arith, done.0) in
    (w, record { same_ranks = all; part = done.1 })

pub returns : goal.returns
returns c =
    let p = c.args.plan.now in
    let w = homes_of p.ranks (unsigned_abs p.smallest) p.boxes in
    let done = c.each.invariant in
    let all : p.ranks ≡ length c.each.stages.items = omega (arith, done.0) in
    all_home w c.in_ok-all.all.items (c.in_ok-all.ensures.len ∙ sym all) (c.in_ok-all.ensures.outs w (record { same_ranks = all; part = done.1 }))

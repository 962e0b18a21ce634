use Rattle.std.proofs.Common.{◌≡◌, ◌<◌, arith}
use Rattle.std.specs.Option.{option_map}
use Rattle.samr_box.specs.Space.{IsSpace, finer}
use Rattle.samr_level.specs.declared.parts.Pair.{Pair}
use Rattle.samr_sched.specs.AskParts.{HasPlans}
use Rattle.samr_sched.proofs.AskOnAllLaws.{each_more, ranks_parts, ranks_selves, its_part, its_pair, its_frame, its_room, its_below, its_space, has_levels, if_mapped}
use Rattle.samr_sched.proofs.ask_on_all.stages_of.Goals as goal

pub bounds-selves-place : goal.bounds-selves-place
bounds-selves-place c =
    let w = c.requires.parts.0 in
    let h = c.requires.parts.1 in
    let all = ranks_parts c.args.region.now c.args.parts.now c.args.selves.now c.args.coarser.now c.args.ghosts.now c.args.fixed.now w h in
    let below : c.each.rank < w.ranks = omega (arith, all, c.each-test.true) in
    let count = ranks_selves c.args.region.now c.args.parts.now c.args.selves.now c.args.coarser.now c.args.ghosts.now c.args.fixed.now w h in
    let place : c.from-place.result ≡ c.each.rank = c.from-place.ensures in
    omega (arith, count, below, place)

pub start-requires-clause-frame : goal.start-requires-clause-frame
start-requires-clause-frame c =
    let w = c.requires.parts.0 in
    let h = c.requires.parts.1 in
    let all = ranks_parts c.args.region.now c.args.parts.now c.args.selves.now c.args.coarser.now c.args.ghosts.now c.args.fixed.now w h in
    let below : c.each.rank < w.ranks = omega (arith, all, c.each-test.true) in
    its_frame c.args.region.now c.args.parts.now c.args.selves.now c.args.coarser.now c.args.ghosts.now c.args.fixed.now w h c.each.rank c.index-selves-place.result
    (its_pair c.args.region.now c.args.parts.now c.args.selves.now c.args.coarser.now c.args.ghosts.now c.args.fixed.now w h c.each.rank c.from-place.result c.index-selves-place.result below c.from-place.ensures c.index-selves-place.is)

pub start-requires-clause-below : goal.start-requires-clause-below
start-requires-clause-below c =
    let w = c.requires.parts.0 in
    let h = c.requires.parts.1 in
    let all = ranks_parts c.args.region.now c.args.parts.now c.args.selves.now c.args.coarser.now c.args.ghosts.now c.args.fixed.now w h in
    let below : c.each.rank < w.ranks = omega (arith, all, c.each-test.true) in
    if_mapped (λ p. p.now) (λ (p : Pair). IsSpace (finer c.args.region.now.frame p.forth.head_ratio)) c.pair_at.result
    (its_space c.args.region.now c.args.parts.now c.args.selves.now c.args.coarser.now c.args.ghosts.now c.args.fixed.now w h c.each.rank (option_map (λ p. p.now) c.pair_at.result)
    (its_below c.args.region.now c.args.parts.now c.args.selves.now c.args.coarser.now c.args.ghosts.now c.args.fixed.now w h c.each.rank c.from-place.result (option_map (λ p. p.now) c.pair_at.result) below c.from-place.ensures c.pair_at.ensures))

pub start-requires-clause-room : goal.start-requires-clause-room
start-requires-clause-room c =
    let w = c.requires.parts.0 in
    let h = c.requires.parts.1 in
    let all = ranks_parts c.args.region.now c.args.parts.now c.args.selves.now c.args.coarser.now c.args.ghosts.now c.args.fixed.now w h in
    let below : c.each.rank < w.ranks = omega (arith, all, c.each-test.true) in
    its_room c.args.region.now c.args.parts.now c.args.selves.now c.args.coarser.now c.args.ghosts.now c.args.fixed.now w h c.each.rank c.index-parts-place.result
    (its_part c.args.region.now c.args.parts.now c.args.selves.now c.args.coarser.now c.args.ghosts.now c.args.fixed.now w h c.each.rank c.from-place.result c.index-parts-place.result below c.from-place.ensures c.index-parts-place.is)

pub each-preserved : goal.each-preserved
each-preserved c = (
  omega (arith, c.in_ok-push.ensures.len, c.each.invariant.0),
  λ w h.
      let all = ranks_parts c.args.region.now c.args.parts.now c.args.selves.now c.args.coarser.now c.args.ghosts.now c.args.fixed.now w h in
      let rank = c.each.rank in
      let below : rank < w.ranks = omega (arith, all, c.each-test.true) in
      let knows = its_below c.args.region.now c.args.parts.now c.args.selves.now c.args.coarser.now c.args.ghosts.now c.args.fixed.now w h rank c.from-place.result (option_map (λ p. p.now) c.pair_at.result) below c.from-place.ensures c.pair_at.ensures in
      let has = has_levels c.args.region.now c.args.parts.now c.args.selves.now c.args.coarser.now c.args.ghosts.now c.args.fixed.now w h rank _ c.index-parts-place.result c.index-selves-place.result (option_map (λ p. p.now) c.pair_at.result) below all
      (its_part c.args.region.now c.args.parts.now c.args.selves.now c.args.coarser.now c.args.ghosts.now c.args.fixed.now w h rank c.from-place.result c.index-parts-place.result below c.from-place.ensures c.index-parts-place.is)
      (its_pair c.args.region.now c.args.parts.now c.args.selves.now c.args.coarser.now c.args.ghosts.now c.args.fixed.now w h rank c.from-place.result c.index-selves-place.result below c.from-place.ensures c.index-selves-place.is) knows in
      each_more (λ k s. HasPlans s.rank s.frame s.below s.step s.boxes.items s.near.items s.under.items s.senders.items s.fixed.items w k)
      c.each.stages.items c.push.new.self.items rank c.in_ok-stage.stage c.each.invariant.0 (c.each.invariant.1 w h) (c.in_ok-stage.ensures w rank has) c.in_ok-push.ensures.items,
)

pub returns : goal.returns
returns c = λ w h.
    let all = ranks_parts c.args.region.now c.args.parts.now c.args.selves.now c.args.coarser.now c.args.ghosts.now c.args.fixed.now w h in
    let done = c.each.invariant in
    let last = c.each.auto.rank-end in
    record { count = omega (arith, all, done.0, last, c.each-test.false); each = done.1 w h }

use Rattle.std.proofs.Common.{◌<◌, arith, length}
use Rattle.std.specs.Option.{option_map}
use Rattle.samr_values.specs.ValuesParts.{HasPacked}
use Rattle.samr_values.proofs.CoarsenOnAllLaws.{each_more}
use Rattle.samr_values.proofs.ValuesOnAllLaws.{all_fields, all_coarse_fields, old_based, coarse_based, its_old}
use Rattle.samr_values.proofs.values_on_all.stages_of.Goals as goal

pub start-requires-clause-fields : goal.start-requires-clause-fields
start-requires-clause-fields g c =
    let w = c.requires.parts.0 in
    let h = c.requires.parts.1 in
    let rank = c.each.rank in
    let step = c.args.step in
    let rules = c.args.strategies.now in
    let boxes = c.as_slice.result.now in
    let old = option_map (λ p. p.now) c.pair_at.result in
    let pair = c.index-coarser-place.result in
    let mine = c.as_slice-in-each.result.now in
    let below = c.as_slice-in-each-2.result.now in
    let all = h.all_news in
    let within : rank < w.ranks = omega (arith, all, c.each-test.true) in
    let has = its_old c.args.news.now c.args.same.now c.args.coarser.now step c.args.patches.now c.args.coarse_patches.now rules w h
    rank c.from-place.result c.index-news-place.result boxes old pair c.index-patches-place.result c.index-coarse_patches-place.result mine below within c.from-place.ensures
    c.index-news-place.is c.as_slice.ensures c.pair_at.ensures c.index-coarser-place.is c.index-patches-place.is c.as_slice-in-each.ensures
    c.index-coarse_patches-place.is c.as_slice-in-each-2.ensures in
    all_fields rank boxes old pair step mine below rules w rank has

pub start-requires-clause-coarse_fields : goal.start-requires-clause-coarse_fields
start-requires-clause-coarse_fields g c =
    let w = c.requires.parts.0 in
    let h = c.requires.parts.1 in
    let rank = c.each.rank in
    let step = c.args.step in
    let rules = c.args.strategies.now in
    let boxes = c.as_slice.result.now in
    let old = option_map (λ p. p.now) c.pair_at.result in
    let pair = c.index-coarser-place.result in
    let mine = c.as_slice-in-each.result.now in
    let below = c.as_slice-in-each-2.result.now in
    let all = h.all_news in
    let within : rank < w.ranks = omega (arith, all, c.each-test.true) in
    let has = its_old c.args.news.now c.args.same.now c.args.coarser.now step c.args.patches.now c.args.coarse_patches.now rules w h
    rank c.from-place.result c.index-news-place.result boxes old pair c.index-patches-place.result c.index-coarse_patches-place.result mine below within c.from-place.ensures
    c.index-news-place.is c.as_slice.ensures c.pair_at.ensures c.index-coarser-place.is c.index-patches-place.is c.as_slice-in-each.ensures
    c.index-coarse_patches-place.is c.as_slice-in-each-2.ensures in
    all_coarse_fields rank boxes old pair step mine below rules w rank has

pub start-requires-clause-based : goal.start-requires-clause-based
start-requires-clause-based g c =
    let w = c.requires.parts.0 in
    let h = c.requires.parts.1 in
    let rank = c.each.rank in
    let step = c.args.step in
    let rules = c.args.strategies.now in
    let boxes = c.as_slice.result.now in
    let old = option_map (λ p. p.now) c.pair_at.result in
    let pair = c.index-coarser-place.result in
    let mine = c.as_slice-in-each.result.now in
    let below = c.as_slice-in-each-2.result.now in
    let all = h.all_news in
    let within : rank < w.ranks = omega (arith, all, c.each-test.true) in
    let has = its_old c.args.news.now c.args.same.now c.args.coarser.now step c.args.patches.now c.args.coarse_patches.now rules w h
    rank c.from-place.result c.index-news-place.result boxes old pair c.index-patches-place.result c.index-coarse_patches-place.result mine below within c.from-place.ensures
    c.index-news-place.is c.as_slice.ensures c.pair_at.ensures c.index-coarser-place.is c.index-patches-place.is c.as_slice-in-each.ensures
    c.index-coarse_patches-place.is c.as_slice-in-each-2.ensures in
    old_based rank boxes old pair step mine below rules w rank has

pub start-requires-clause-coarse_based : goal.start-requires-clause-coarse_based
start-requires-clause-coarse_based g c =
    let w = c.requires.parts.0 in
    let h = c.requires.parts.1 in
    let rank = c.each.rank in
    let step = c.args.step in
    let rules = c.args.strategies.now in
    let boxes = c.as_slice.result.now in
    let old = option_map (λ p. p.now) c.pair_at.result in
    let pair = c.index-coarser-place.result in
    let mine = c.as_slice-in-each.result.now in
    let below = c.as_slice-in-each-2.result.now in
    let all = h.all_news in
    let within : rank < w.ranks = omega (arith, all, c.each-test.true) in
    let has = its_old c.args.news.now c.args.same.now c.args.coarser.now step c.args.patches.now c.args.coarse_patches.now rules w h
    rank c.from-place.result c.index-news-place.result boxes old pair c.index-patches-place.result c.index-coarse_patches-place.result mine below within c.from-place.ensures
    c.index-news-place.is c.as_slice.ensures c.pair_at.ensures c.index-coarser-place.is c.index-patches-place.is c.as_slice-in-each.ensures
    c.index-coarse_patches-place.is c.as_slice-in-each-2.ensures in
    coarse_based rank boxes old pair step mine below rules w rank has

pub each-preserved : goal.each-preserved
each-preserved g c = (
  omega (arith, c.in_ok-push.ensures.len, c.each.invariant.0),
  λ w h.
      let rank = c.each.rank in
      let step = c.args.step in
      let rules = c.args.strategies.now in
      let boxes = c.as_slice.result.now in
      let old = option_map (λ p. p.now) c.pair_at.result in
      let pair = c.index-coarser-place.result in
      let mine = c.as_slice-in-each.result.now in
      let below = c.as_slice-in-each-2.result.now in
      let all = h.all_news in
      let within : rank < w.ranks = omega (arith, all, c.each-test.true) in
      let has = its_old c.args.news.now c.args.same.now c.args.coarser.now step c.args.patches.now c.args.coarse_patches.now rules w h
      rank c.from-place.result c.index-news-place.result boxes old pair c.index-patches-place.result c.index-coarse_patches-place.result mine below within c.from-place.ensures
      c.index-news-place.is c.as_slice.ensures c.pair_at.ensures c.index-coarser-place.is c.index-patches-place.is c.as_slice-in-each.ensures
      c.index-coarse_patches-place.is c.as_slice-in-each-2.ensures in
      each_more (λ k s. HasPacked s.rank s.step s.boxes.items s.letters.items s.own.items s.senders.items s.strategies.now w k × (length s.strategies.now < 256))
      c.each.stages.items c.push.new.self.items rank c.in_ok-stage.stage c.each.invariant.0 (c.each.invariant.1 w h) (c.in_ok-stage.ensures w rank has) c.in_ok-push.ensures.items,
)

pub returns : goal.returns
returns g c = λ w h.
    let all = h.all_news in
    let done = c.each.invariant in
    let last = c.each.auto.rank-end in
    record { same_ranks = omega (arith, all, done.0, last, c.each-test.false); part = done.1 w h }

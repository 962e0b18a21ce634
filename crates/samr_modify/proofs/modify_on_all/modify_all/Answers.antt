use Rattle.std.proofs.Common.{◌≡◌, ◌<◌, ◌∙◌, sym, arith, length, map, refl}
use Rattle.samr_modify.specs.ModifyParts.{HasEntries}
use Rattle.samr_modify.proofs.ModifyOnAllLaws.{each_more, ranks_anchors, ranks_mappings, ranks_pieces, part_anchor, part, part_width, part_frame, all_have}
use Rattle.samr_modify.proofs.modify_on_all.modify_all.Goals as goal

pub bounds-mappings-place : goal.bounds-mappings-place
bounds-mappings-place c =
    let w = c.requires.parts.0 in
    let h = c.requires.parts.1 in
    let count = ranks_anchors c.args.d.now c.args.anchors.now c.args.mappings.now (map (λ v. v.items) c.args.news.now) w h in
    let also = ranks_mappings c.args.d.now c.args.anchors.now c.args.mappings.now (map (λ v. v.items) c.args.news.now) w h in
    omega (arith, count, also, c.from-place.ensures)

pub bounds-news-place : goal.bounds-news-place
bounds-news-place c =
    let w = c.requires.parts.0 in
    let h = c.requires.parts.1 in
    let count = ranks_anchors c.args.d.now c.args.anchors.now c.args.mappings.now (map (λ v. v.items) c.args.news.now) w h in
    let also = ranks_pieces c.args.d.now c.args.anchors.now c.args.mappings.now (map (λ v. v.items) c.args.news.now) w h (λ v. v.items) c.args.news.now refl in
    omega (arith, count, also, c.from-place.ensures)

pub start-requires-clause-width : goal.start-requires-clause-width
start-requires-clause-width c =
    let w = c.requires.parts.0 in
    let h = c.requires.parts.1 in
    let d = c.args.d.now in
    let pieces = map (λ v. v.items) c.args.news.now in
    let count = ranks_anchors d c.args.anchors.now c.args.mappings.now pieces w h in
    let within : c.each.rank < w.ranks = omega (arith, count) in
    part_width d c.args.anchors.now c.args.mappings.now pieces w h c.each.rank c.index-anchors-place.result
    (part_anchor d c.args.anchors.now c.args.mappings.now pieces w h c.each.rank c.from-place.result c.index-anchors-place.result within c.from-place.ensures c.index-anchors-place.is)

pub start-requires-clause-frame : goal.start-requires-clause-frame
start-requires-clause-frame c =
    let w = c.requires.parts.0 in
    let h = c.requires.parts.1 in
    let d = c.args.d.now in
    let pieces = map (λ v. v.items) c.args.news.now in
    let count = ranks_anchors d c.args.anchors.now c.args.mappings.now pieces w h in
    let within : c.each.rank < w.ranks = omega (arith, count) in
    part_frame d c.args.anchors.now c.args.mappings.now pieces w h c.each.rank c.index-anchors-place.result
    (part_anchor d c.args.anchors.now c.args.mappings.now pieces w h c.each.rank c.from-place.result c.index-anchors-place.result within c.from-place.ensures c.index-anchors-place.is)

pub each-preserved : goal.each-preserved
each-preserved c =
    let before = c.each.invariant in (
      omega (arith, c.in_ok-push.ensures.len, before.0),
      λ w h.
          let d = c.args.d.now in
          let anchors = c.args.anchors.now in
          let mappings = c.args.mappings.now in
          let pieces = map (λ v. v.items) c.args.news.now in
          let count = ranks_anchors d anchors mappings pieces w h in
          let within : c.each.rank < w.ranks = omega (arith, count) in
          let news = c.index-news-place.result in
          let started = c.in_ok-start.ensures w c.each.rank
          (part d anchors mappings pieces w h (λ v. v.items) c.args.news.now refl c.each.rank _ c.from-place.result c.index-anchors-place.result c.index-mappings-place.result news _ within
          (omega (arith, count)) c.from-place.ensures c.index-anchors-place.is c.index-mappings-place.is c.index-news-place.is c.as_slice.ensures.value) in
          each_more (λ k s. HasEntries s.rank s.width s.anchor_ratio s.old_ratio s.forth s.back s.edges.items s.known.items s.addressees.items s.senders.items w k)
          c.each.stages.items c.push.new.self.items c.each.rank c.in_ok-start.field-0 before.0 (before.1 w h) started c.in_ok-push.ensures.items,
    )

pub exchange-requires-clause-parts : goal.exchange-requires-clause-parts
exchange-requires-clause-parts c =
    let w = c.requires.parts.0 in
    let h = c.requires.parts.1 in
    let count = ranks_anchors c.args.d.now c.args.anchors.now c.args.mappings.now (map (λ v. v.items) c.args.news.now) w h in
    let done = c.each.invariant in
    (w, record { same_ranks = omega (arith, count, done.0); part = done.1 w h })

pub returns : goal.returns
returns c = λ w h modifying.
    let d = c.args.d.now in
    let pieces = map (λ v. v.items) c.args.news.now in
    let count = ranks_anchors d c.args.anchors.now c.args.mappings.now pieces w h in
    let done = c.each.invariant in
    let all : w.ranks ≡ length c.each.stages.items = omega (arith, count, done.0) in
    all_have d c.args.anchors.now c.args.mappings.now pieces w h c.in_ok-pairs.pairs.items (c.in_ok-pairs.ensures.len ∙ sym all)
    (c.in_ok-pairs.ensures.outs w (record { same_ranks = all; part = done.1 w h })) modifying

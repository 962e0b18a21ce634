use Rattle.std.proofs.Common.{◌≡◌, ◌<◌, ◌∙◌, sym, ap, arith, length}
use Rattle.samr_level.specs.declared.parts.Part.{Part}
use Rattle.samr_tags.specs.BufferParts.{HasSeen}
use Rattle.samr_tags.proofs.BufferOnAllLaws.{each_more, ranks_parts, its_part, its_pair, has_selves, its_frame}
use Rattle.samr_tags.proofs.buffer_on_all.buffer_all.Goals as goal

pub start-requires-clause-frame : goal.start-requires-clause-frame
start-requires-clause-frame g c =
    let w = c.requires.parts.0 in
    let h = c.requires.parts.1 in
    let shape = g.T.Given.is_tagged c.args.given.now c.args.level c.args.step in
    let count = ranks_parts c.args.d.now c.args.parts.now c.args.selves.now shape c.args.tag_buffer w h in
    let within : c.each.rank < w.ranks = omega (arith, count) in
    its_frame c.args.d.now c.args.parts.now c.args.selves.now shape c.args.tag_buffer w h c.each.rank c.index-selves-place.result
    (its_pair c.args.d.now c.args.parts.now c.args.selves.now shape c.args.tag_buffer w h c.each.rank c.from-place.result c.index-selves-place.result within
    c.from-place.ensures c.index-selves-place.is)

pub each-preserved : goal.each-preserved
each-preserved g c =
    let before = c.each.invariant in (
      omega (arith, c.in_ok-push.ensures.len, before.0),
      λ w h.
          let d = c.args.d.now in
          let parts = c.args.parts.now in
          let selves = c.args.selves.now in
          let shape = g.T.Given.is_tagged c.args.given.now c.args.level c.args.step in
          let buffer = c.args.tag_buffer in
          let rank = c.each.rank in
          let count = ranks_parts d parts selves shape buffer w h in
          let within : rank < w.ranks = omega (arith, count) in
          let part = its_part d parts selves shape buffer w h rank c.from-place.result c.index-parts-place.result within c.from-place.ensures c.index-parts-place.is in
          let pair = its_pair d parts selves shape buffer w h rank c.from-place.result c.index-selves-place.result within c.from-place.ensures c.index-selves-place.is in
          let has = has_selves d parts selves shape buffer w h rank (length parts) c.as_slice-boxes.result.now c.index-selves-place.result within count
          (c.as_slice-boxes.ensures ∙ ap (λ (p : Part). p.boxes) (sym c.index-parts-place.is ∙ part)) pair in
          each_more (λ k s. HasSeen s.rank s.frame s.buffer s.boxes.items s.own.items s.peers.items w k)
          c.each.stages.items c.push.new.self.items rank c.in_ok-stage.stage before.0 (before.1 w h) (c.in_ok-stage.ensures w rank has) c.in_ok-push.ensures.items,
    )

pub exchange-requires-clause-parts : goal.exchange-requires-clause-parts
exchange-requires-clause-parts g c =
    let w = c.requires.parts.0 in
    let h = c.requires.parts.1 in
    let shape = g.T.Given.is_tagged c.args.given.now c.args.level c.args.step in
    let count = ranks_parts c.args.d.now c.args.parts.now c.args.selves.now shape c.args.tag_buffer w h in
    let done = c.each.invariant in
    (w, record { same_ranks = omega (arith, count, done.0); part = done.1 w h })

pub returns : goal.returns
returns g c = λ w h t.
    let shape = g.T.Given.is_tagged c.args.given.now c.args.level c.args.step in
    let count = ranks_parts c.args.d.now c.args.parts.now c.args.selves.now shape c.args.tag_buffer w h in
    let done = c.each.invariant in
    let all : w.ranks ≡ length c.each.stages.items = omega (arith, count, done.0) in
    (c.in_ok-fields.ensures.len ∙ sym all, λ rank out got. c.in_ok-fields.ensures.outs w (record { same_ranks = all; part = done.1 w h }) rank out got t)

use Rattle.std.proofs.Common.{◌≡◌, ◌<◌, ◌∙◌, sym, arith, length}
use Rattle.samr_bridge.specs.BridgeParts.{HasFound}
use Rattle.samr_bridge.proofs.BridgeOnAllLaws.{each_more, ranks_east, part_east, part_west, part, part_frame, all_have}
use Rattle.samr_bridge.proofs.bridge_on_all.bridge_all.Goals as goal

pub start-requires-clause-frame : goal.start-requires-clause-frame
start-requires-clause-frame c =
    let w = c.requires.parts.0 in
    let h = c.requires.parts.1 in
    let d = c.args.d.now in
    let east = c.args.east.now in
    let west = c.args.west.now in
    let count = ranks_east d east west c.args.width w h in
    let within : c.each.rank < w.ranks = omega (arith, count) in
    part_frame d east west c.args.width w h c.each.rank _ _
    (part_east d east west c.args.width w h c.each.rank c.from-place.result c.index-east-place.result within c.from-place.ensures c.index-east-place.is)
    (part_west d east west c.args.width w h c.each.rank c.from-place.result c.index-west-place.result within c.from-place.ensures c.index-west-place.is)

pub each-preserved : goal.each-preserved
each-preserved c =
    let before = c.each.invariant in (
      omega (arith, c.in_ok-push.ensures.len, before.0),
      λ w h.
          let d = c.args.d.now in
          let east = c.args.east.now in
          let west = c.args.west.now in
          let count = ranks_east d east west c.args.width w h in
          let within : c.each.rank < w.ranks = omega (arith, count) in
          let p = part_east d east west c.args.width w h c.each.rank c.from-place.result c.index-east-place.result within c.from-place.ensures c.index-east-place.is in
          let q = part_west d east west c.args.width w h c.each.rank c.from-place.result c.index-west-place.result within c.from-place.ensures c.index-west-place.is in
          let found = c.in_ok-start.ensures w c.each.rank (part d east west c.args.width w h c.each.rank _ _ _ within (omega (arith, count)) p q) in
          each_more (λ k s. HasFound s.rank s.width s.east_ratio s.west_ratio s.found.items s.addressees.items s.senders.items w k)
          c.each.stages.items c.push.new.self.items c.each.rank c.in_ok-start.field-0 before.0 (before.1 w h) found c.in_ok-push.ensures.items,
    )

pub exchange-requires-clause-parts : goal.exchange-requires-clause-parts
exchange-requires-clause-parts c =
    let w = c.requires.parts.0 in
    let h = c.requires.parts.1 in
    let count = ranks_east c.args.d.now c.args.east.now c.args.west.now c.args.width w h in
    let done = c.each.invariant in
    (w, record { same_ranks = omega (arith, count, done.0); part = done.1 w h })

pub returns : goal.returns
returns c = λ w h bridge.
    let d = c.args.d.now in
    let count = ranks_east d c.args.east.now c.args.west.now c.args.width w h in
    let done = c.each.invariant in
    let all : w.ranks ≡ length c.each.stages.items = omega (arith, count, done.0) in
    all_have d c.args.east.now c.args.west.now c.args.width w h c.in_ok-pairs.pairs.items (c.in_ok-pairs.ensures.len ∙ sym all)
    (c.in_ok-pairs.ensures.outs w (record { same_ranks = all; part = done.1 w h })) bridge

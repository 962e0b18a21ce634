use Rattle.std.proofs.Common.{◌≡◌, ◌<◌, arith, length}
use Rattle.samr_cluster.specs.EdgesParts.{HasCompared}
use Rattle.samr_cluster.proofs.OnAllLaws.{each_more, at_rank}
use Rattle.samr_cluster.proofs.on_all.edges_all.Goals as goal

pub each-preserved : goal.each-preserved
each-preserved c =
    let before = c.each.invariant in (
      omega (arith, c.in_ok-push.ensures.len, before.0),
      λ w h.
          let boxes = c.args.boxes.now in
          let accepted = c.args.accepted.now in
          let less : c.each.rank < length boxes = omega arith in
          let same : length boxes ≡ length accepted = c.requires.same in
          let b = at_rank boxes c.each.rank c.from-place.result c.index-boxes-place.result c.as_slice.result.now c.from-place.ensures less c.index-boxes-place.is c.as_slice.ensures in
          let a = at_rank accepted c.each.rank c.from-place.result c.index-accepted-place.result c.as_slice-in-each.result.now c.from-place.ensures (omega (arith, less, same)) c.index-accepted-place.is c.as_slice-in-each.ensures in
          let made = c.in_ok-start.ensures w c.each.rank (h.part c.each.rank _ _ b a) in
          each_more (λ k s. HasCompared s.rank s.width s.ratio s.found.items s.addressees.items s.senders.items w k)
          c.each.stages.items c.push.new.self.items c.each.rank c.in_ok-start.field-0 before.0 (before.1 w h) made c.in_ok-push.ensures.items,
    )

pub exchange-requires-clause-parts : goal.exchange-requires-clause-parts
exchange-requires-clause-parts c =
    let w = c.requires.parts.0 in
    let h = c.requires.parts.1 in
    let done = c.each.invariant in
    let ranks = h.same_ranks in
    (w, record { same_ranks = omega (arith, ranks, done.0); part = done.1 w h })

pub returns-clause-pairs : goal.returns-clause-pairs
returns-clause-pairs c = λ w h.
    let done = c.each.invariant in
    let ranks = h.same_ranks in
    c.in_ok-pairs.ensures.outs w (record { same_ranks = omega (arith, ranks, done.0); part = done.1 w h })

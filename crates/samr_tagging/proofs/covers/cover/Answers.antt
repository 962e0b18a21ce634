use Rattle.samr_tagging.proofs.CoverStarts.{rooms, cover_begins}
use Rattle.samr_tagging.proofs.covers.cover.Goals as goal

pub start-requires-clause-room : goal.start-requires-clause-room
start-requires-clause-room g c =
    let w = c.requires.0 in
    let r = c.requires.1 in
    let h = c.requires.2 in
    rooms w.at.setting.problem w.pass r c.frame-frame.result c.covers.result.now c.nest.result c.upper.result c.lower.result h.1.can h.1.above
    (c.frame-frame.ensures w r h) (c.covers.ensures w r h c.requires.3) (c.nest.ensures w r h) (c.upper.ensures w r h) (c.lower.ensures w r h)

pub returns : goal.returns
returns g c = λ w r h visits tags.
    c.in_ok-stage.ensures _ r (cover_begins w r c.rank.result c.ranks.result c.frame-frame.result c.args.fields c.covers.result.now c.nest.result c.upper.result c.lower.result h.1 h.0.within
    (c.rank.ensures w r h) (c.ranks.ensures w r h) (c.frame-frame.ensures w r h) (c.covers.ensures w r h visits) (c.nest.ensures w r h) (c.upper.ensures w r h) (c.lower.ensures w r h) tags)

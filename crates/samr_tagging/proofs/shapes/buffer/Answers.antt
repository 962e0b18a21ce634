use Rattle.samr_tagging.proofs.TagStarts.{buffer_in_range, told_all, buffer_begins}
use Rattle.samr_tagging.proofs.shapes.buffer.Goals as goal

pub start-requires-clause-told : goal.start-requires-clause-told
start-requires-clause-told g c =
    let w = c.requires.0 in
    let r = c.requires.1 in
    let h = c.requires.2 in
    told_all w r h.1 _ _ _ _ (c.tools.ensures w r h).0 c.old-old.result.now c.level.result c.step.result (c.old-old.ensures w r h) (c.level.ensures w r h) (c.step.ensures w r h)

pub start-requires-clause-range : goal.start-requires-clause-range
start-requires-clause-range g c =
    let w = c.requires.0 in
    let h = c.requires.2 in
    buffer_in_range w.at.setting.problem w.pass c.tag_buffer.result h.1.can (c.tag_buffer.ensures w c.requires.1 h)

pub returns : goal.returns
returns g c = λ w r h.
    c.in_ok-stage.ensures _ r (buffer_begins w r h.1 _ _ _ _ (c.tools.ensures w r h).0 c.old-old.result.now c.rank.result c.ranks.result c.level.result c.step.result c.frame-frame.result c.as_slice.result.now c.tag_buffer.result h.0.within
    (c.old-old.ensures w r h) (c.rank.ensures w r h) (c.ranks.ensures w r h) (c.level.ensures w r h) (c.step.ensures w r h) (c.frame-frame.ensures w r h) c.as_slice.ensures (c.tag_buffer.ensures w r h))

use Rattle.samr_tags.proofs.BufferStage.{begins}
use Rattle.samr_tags.proofs.buffer.Buffer.start.Goals as goal

pub returns : goal.returns
returns g c = λ w r h.
    begins c.args.rank c.args.ranks c.args.d.now c.args.boxes.now c.args.selves.now (g.T.Given.is_tagged c.args.given.now c.args.level c.args.step) c.args.tag_buffer w r h
    c.requires.low c.requires.range c.finer-frame.result c.in_ok-boxes.boxes.items c.as_slice-edges.result.now c.in_ok-own.own.items c.in_ok-peers.peers.items
    c.finer-frame.ensures c.in_ok-boxes.ensures.items c.as_slice-edges.ensures c.in_ok-own.ensures c.in_ok-peers.ensures

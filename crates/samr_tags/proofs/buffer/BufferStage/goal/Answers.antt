use Rattle.std.proofs.Common.{ap, ◌∙◌, length, arith}
use Rattle.samr_tags.proofs.BufferStage.{awaits}
use Rattle.samr_tags.proofs.buffer.BufferStage.goal.Goals as goal

pub returns : goal.returns
returns c = λ w rank h.
    let e = ap length h.same_peers ∙ awaits w rank h.owned h.within in
    omega (arith, c.len.ensures, c.args.self.now.peers.ok.0, e)

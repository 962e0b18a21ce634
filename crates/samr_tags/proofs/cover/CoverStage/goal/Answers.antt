use Rattle.std.proofs.Common.{ap, ◌∙◌, length, arith}
use Rattle.samr_tags.proofs.CoverStage.{awaits}
use Rattle.samr_tags.proofs.cover.CoverStage.goal.Goals as goal

pub returns : goal.returns
returns c = λ w rank h.
    let e = ap length h.same_senders ∙ awaits w rank h.owned h.within in
    omega (arith, c.len.ensures, c.args.self.now.senders.ok.0, e)

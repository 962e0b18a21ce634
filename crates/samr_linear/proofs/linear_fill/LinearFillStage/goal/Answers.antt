use Rattle.std.proofs.Common.{ap, ◌∙◌, length, arith}
use Rattle.samr_linear.proofs.LinearFillStage.{awaits}
use Rattle.samr_linear.proofs.linear_fill.LinearFillStage.goal.Goals as goal

pub returns : goal.returns
returns g c = λ w rank h.
    let e = ap length h.same_senders ∙ awaits w h.is rank h.within in
    omega (arith, c.len.ensures, c.args.self.now.senders.ok.0, e)

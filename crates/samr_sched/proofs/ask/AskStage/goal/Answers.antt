use Rattle.std.proofs.Common.{arith}
use Rattle.samr_sched.proofs.AskStage.{awaits}
use Rattle.samr_sched.proofs.ask.AskStage.goal.Goals as goal

pub returns : goal.returns
returns c = λ w rank h.
    let self = c.args.self.now in
    let e = awaits self.rank self.frame self.below self.step self.boxes.items self.near.items self.under.items self.senders.items self.fixed.items w rank h in
    omega (arith, c.len.ensures, c.args.self.now.senders.ok.0, e)

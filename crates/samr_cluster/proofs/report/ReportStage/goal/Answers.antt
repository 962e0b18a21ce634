use Rattle.std.proofs.Common.{arith}
use Rattle.samr_cluster.proofs.ReportStage.{counts}
use Rattle.samr_cluster.proofs.report.ReportStage.goal.Goals as goal

pub returns : goal.returns
returns c = λ x rank h.
    let self = c.args.self.now in
    let e = counts self.rank self.near.items self.own self.directed.items self.senders.items x rank h in
    omega (arith, c.len.ensures, self.senders.ok.0, e)

use Rattle.std.proofs.Common.{ap, ◌∙◌, length, arith}
use Rattle.samr_values.proofs.ValuesRowLaws.{count_from}
use Rattle.samr_values.proofs.values.ValuesStage.goal.Goals as goal

pub returns : goal.returns
returns g c = λ w rank h.
    let e = ap length h.0.same_senders ∙ count_from w h.0.is rank h.0.within in
    omega (arith, c.len.ensures, c.args.self.now.senders.ok.0, e)

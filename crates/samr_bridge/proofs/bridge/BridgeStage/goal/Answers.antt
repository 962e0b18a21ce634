use Rattle.std.proofs.Common.{ap, ◌∙◌, length, arith}
use Rattle.samr_bridge.proofs.BridgeRowLaws.{count_is}
use Rattle.samr_bridge.proofs.bridge.BridgeStage.goal.Goals as goal

pub returns : goal.returns
returns c = λ w rank h.
    let e = ap length h.same_senders ∙ count_is w h.owned rank h.within in
    omega (arith, c.len.ensures, c.args.self.now.senders.ok.0, e)

use Rattle.std.proofs.Common.{◌∙◌, ap, sym, eqb-true, eq-eqb}
use Rattle.samr_relay.specs.declared.run.RelayRun.{RelayRun}
use Rattle.samr_relay.proofs.Rounds.{over_is, is_over}
use Rattle.samr_relay.proofs.relay.RelayProgram.finished.Goals as goal

pub returns : goal.returns
returns c = λ entered placed.
    let self = c.args.self.now in
    let rounds = ap (λ (r : RelayRun). r.rounds) c.deref.ensures in
    (λ all. is_over _ self.rank self.round (eqb-true _ _ all ∙ rounds), λ over. eq-eqb _ _ (over_is _ self.rank self.round self.heard placed over ∙ sym rounds))

use Rattle.std.proofs.Common.{◌∙◌, ap, sym}
use Rattle.samr_relay.specs.declared.run.RelayRun.{RelayRun}
use Rattle.samr_relay.proofs.Rounds.{ranks_is}
use Rattle.samr_relay.proofs.relay.RelayProgram.ranks.Goals as goal

pub returns : goal.returns
returns c = ap (λ (r : RelayRun). r.ranks) c.deref.ensures ∙ sym (ranks_is _)

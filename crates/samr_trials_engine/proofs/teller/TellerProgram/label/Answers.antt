use Rattle.samr_trials_engine.proofs.TellingLemmas.{telling_at}
use Rattle.samr_trials_engine.proofs.teller.TellerProgram.label.Goals as goal

pub returns : goal.returns
returns c = λ _ _. telling_at c.args.self.now.left

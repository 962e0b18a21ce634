use Rattle.samr_bridge.proofs.Ways.{way}
use Rattle.samr_bridge.proofs.Everything.{sound, all_forth, all_back}
use Rattle.samr_bridge.proofs.law.bridge_law.Goals as goal

pub returns-clause-way : goal.returns-clause-way
returns-clause-way c = way

pub returns-clause-sound : goal.returns-clause-sound
returns-clause-sound c = sound

pub returns-clause-forth : goal.returns-clause-forth
returns-clause-forth c = all_forth

pub returns-clause-back : goal.returns-clause-back
returns-clause-back c = all_back

-- The law 'soundness'.
use Rattle.samr_hierarchy.proofs.Sounding.{problems_are_sound}
use Rattle.samr_hierarchy.proofs.laws.soundness.Goals as goal

pub returns : goal.returns
returns c = problems_are_sound

-- The law 'hierarchies_are_sound'.
use Rattle.samr_hierarchy.proofs.Sounding.{hierarchies_are_sound}
use Rattle.samr_hierarchy.proofs.laws.hierarchies_are_sound.Goals as goal

pub returns : goal.returns
returns c = hierarchies_are_sound

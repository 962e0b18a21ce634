-- The law 'each_step_is_sound'.
use Rattle.samr_hierarchy.proofs.Fitting.{each_step_is_sound}
use Rattle.samr_hierarchy.proofs.laws.each_step_is_sound.Goals as goal

pub returns : goal.returns
returns c = each_step_is_sound

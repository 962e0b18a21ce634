-- The law 'patches_have_values'.
use Rattle.samr_hierarchy.proofs.Patching.{patches_have_values}
use Rattle.samr_hierarchy.proofs.laws.patches_have_values.Goals as goal

pub returns : goal.returns
returns c = patches_have_values

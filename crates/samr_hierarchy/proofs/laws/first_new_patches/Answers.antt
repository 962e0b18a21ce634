-- The law 'first_new_patches'.
use Rattle.samr_hierarchy.proofs.Patching.{first_new_patches}
use Rattle.samr_hierarchy.proofs.laws.first_new_patches.Goals as goal

pub returns : goal.returns
returns c = first_new_patches

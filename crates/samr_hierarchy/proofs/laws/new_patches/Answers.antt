-- The law 'new_patches'.
use Rattle.samr_hierarchy.proofs.Patching.{new_patches}
use Rattle.samr_hierarchy.proofs.laws.new_patches.Goals as goal

pub returns : goal.returns
returns c = new_patches

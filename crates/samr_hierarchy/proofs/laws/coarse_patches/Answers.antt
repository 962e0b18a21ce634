-- The law 'coarse_patches'.
use Rattle.samr_hierarchy.proofs.Patching.{coarse_patches}
use Rattle.samr_hierarchy.proofs.laws.coarse_patches.Goals as goal

pub returns : goal.returns
returns c = coarse_patches

-- The law 'level_0_keeps_its_patches'.
use Rattle.samr_hierarchy.proofs.Patching.{level_0_keeps_its_patches}
use Rattle.samr_hierarchy.proofs.laws.level_0_keeps_its_patches.Goals as goal

pub returns : goal.returns
returns c = level_0_keeps_its_patches

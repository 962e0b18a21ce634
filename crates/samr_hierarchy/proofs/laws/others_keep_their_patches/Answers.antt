-- The law 'others_keep_their_patches'.
use Rattle.samr_hierarchy.proofs.Patching.{others_keep_their_patches}
use Rattle.samr_hierarchy.proofs.laws.others_keep_their_patches.Goals as goal

pub returns : goal.returns
returns c = others_keep_their_patches

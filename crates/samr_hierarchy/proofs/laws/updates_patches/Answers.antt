-- The law 'updates_patches'.
use Rattle.samr_hierarchy.proofs.Updating.{updates_patches}
use Rattle.samr_hierarchy.proofs.laws.updates_patches.Goals as goal

pub returns : goal.returns
returns c = updates_patches

use Rattle.samr_data.proofs.Patches.{copies_region}
use Rattle.samr_data.proofs.laws.copies_region.Goals as goal

pub returns : goal.returns
returns c = copies_region

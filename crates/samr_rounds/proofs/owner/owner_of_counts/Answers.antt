use Rattle.samr_rounds.proofs.OwnerCounts.{owner_some, owner_none}
use Rattle.samr_rounds.proofs.owner.owner_of_counts.Goals as goal

pub returns-in-Some : goal.returns-in-Some
returns-in-Some c = owner_some c.args.counts.now c.in-Some.c c.in-Some.ensures

pub returns-in-None : goal.returns-in-None
returns-in-None c = owner_none c.args.counts.now c.in-None.ensures

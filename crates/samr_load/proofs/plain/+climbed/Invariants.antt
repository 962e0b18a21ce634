use Rattle.samr_load.proofs.PlainSteps.{ahead}
use Rattle.samr_load.proofs.plain.+climbed.Given as goal

abbrev pub decreases-climbed : goal.decreases-climbed
decreases-climbed l = ahead l.plan.now.ranks l.rank

use Rattle.samr_nest.proofs.WorkedProofs.{at_both_ends, over_two_parts}
use Rattle.samr_nest.proofs.laws.worked_rows.Goals as goal

pub returns-clause-at_both_ends : goal.returns-clause-at_both_ends
returns-clause-at_both_ends c = at_both_ends

pub returns-clause-over_two_parts : goal.returns-clause-over_two_parts
returns-clause-over_two_parts c = over_two_parts

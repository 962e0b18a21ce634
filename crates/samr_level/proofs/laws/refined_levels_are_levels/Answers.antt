-- Levels in a finer index space.
use Rattle.samr_level.proofs.Refining.{refined_is_level, refined_cells, finer_twice}
use Rattle.samr_level.proofs.RefinedLinks.{heads_over, bases_over}
use Rattle.samr_level.proofs.laws.refined_levels_are_levels.Goals as goal

pub returns-clause-levels : goal.returns-clause-levels
returns-clause-levels c = λ area r ranks level q is. (refined_is_level area r ranks level q is, λ x. refined_cells r x level q)

pub returns-clause-twice : goal.returns-clause-twice
returns-clause-twice c = λ area r s. finer_twice area r s

pub returns-clause-overlaps : goal.returns-clause-overlaps
returns-clause-overlaps c = λ frame width r step level pieces q t. (heads_over frame width r step level pieces q t, bases_over frame width r step level pieces q t)

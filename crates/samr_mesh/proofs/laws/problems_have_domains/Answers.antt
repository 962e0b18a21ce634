-- What an accepted problem gives.
use Rattle.samr_mesh.proofs.Regions.{has_level0}
use Rattle.samr_mesh.proofs.RuleLaws.{rule_is}
use Rattle.samr_mesh.proofs.CellBounds.{few_cells}
use Rattle.samr_mesh.proofs.Grounding.{domain, can_pass}
use Rattle.samr_mesh.proofs.laws.problems_have_domains.Goals as goal

pub returns-clause-domains : goal.returns-clause-domains
returns-clause-domains c = λ p l is h. domain p is l h

pub returns-clause-passes : goal.returns-clause-passes
returns-clause-passes c = λ p l is h. can_pass p is l h

pub returns-clause-level0 : goal.returns-clause-level0
returns-clause-level0 c = λ p is. has_level0 p is

pub returns-clause-cells : goal.returns-clause-cells
returns-clause-cells c = λ p l ranks level domain is. few_cells p l ranks level domain is

pub returns-clause-rules : goal.returns-clause-rules
returns-clause-rules c = λ p r e s. rule_is p r e s

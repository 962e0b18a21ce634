use Rattle.samr_mesh_plain.proofs.CutFacts.{kept_smallest}
use Rattle.samr_clustering.proofs.roots.rule_of.Goals as goal

pub invariant_of-result : goal.invariant_of-result
invariant_of-result c = record { positive = kept_smallest _ c.problem.invariant }

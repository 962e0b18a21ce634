use Rattle.std.proofs.Common.{subst}
use Rattle.samr_box.specs.Corners.{Corners}
use Rattle.samr_values.specs.Coarsen.{IsRefinement}
use Rattle.samr_values.proofs.tests.starts_over.Goals as goal

pub returns : goal.returns
returns c = λ t. subst (λ (b : Corners). IsRefinement c.args.step b) c.base_of.ensures (c.is_refinement.ensures t)

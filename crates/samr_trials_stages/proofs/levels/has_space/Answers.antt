use Rattle.std.proofs.Common.{subst}
use Rattle.samr_box.specs.declared.vector.IVec.{IVec}
use Rattle.samr_box.specs.Space.{IsSpace, finer}
use Rattle.samr_sched.proofs.PlanLaws.{greatest_self}
use Rattle.samr_trials_stages.proofs.levels.has_space.Goals as goal

pub returns : goal.returns
returns c = λ t. subst (λ (r : IVec). IsSpace (finer c.args.d.now r)) (greatest_self c.args.r) (c.can_compare.ensures t).forth

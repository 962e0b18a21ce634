use Rattle.std.proofs.Common.{option_map}
use Rattle.toml.specs.View.{view}
use Rattle.samr_problem.specs.Contexts.{ratio_of}
use Rattle.samr_problem.proofs.Steps.{range_step}
use Rattle.samr_problem.proofs.context.ratios_of.Goals as goal

pub loop-n-preserved : goal.loop-n-preserved
loop-n-preserved c =
    range_step (λ n. ratio_of c.args.dim (option_map (λ v. view v.now) c.args.value) n) c.loop-n.n _ _ _ c.in_ok-push.ensures.items c.loop-n.invariant c.ratio_of.ensures

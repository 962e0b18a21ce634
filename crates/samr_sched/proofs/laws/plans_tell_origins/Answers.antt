use Rattle.samr_sched.proofs.PlanTells.{plan_tells}
use Rattle.samr_sched.proofs.laws.plans_tell_origins.Goals as goal

pub returns : goal.returns
returns c = λ w h b field g x m n has off. plan_tells w h b g x m n has off field

use Rattle.std.proofs.Common.{arith, ◌∙◌}
use Rattle.samr_regrid.proofs.base.Base.upper.Goals as goal
use Rattle.samr_regrid.proofs.PartsOfLevels.{next_steps}

pub overflow_add-self : goal.overflow_add-self
overflow_add-self g c =
    let few = c.requires.2.1.few in
    let same = c.requires.2.4.same_level in
    let run = c.requires.2.0.same_run in
    let most = c.requires.2.0.problem.levels.below in
    omega (arith, few, same, most)

pub returns : goal.returns
returns g c = λ w r h. c.step_above.ensures ∙ next_steps _ _ _ _ h.0.same_run h.4.same_level

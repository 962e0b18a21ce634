use Rattle.std.proofs.Common.{arith}
use Rattle.samr_trials_phases.proofs.Lines.{hears, hears_none}
use Rattle.samr_trials_phases.proofs.stage.TellStage.goal.Goals as goal

pub returns-then-self-eq1 : goal.returns-then-self-eq1
returns-then-self-eq1 c = λ w rank starts. hears w rank (omega (arith, c.if-self-eq1.true, starts.0))

pub returns-else-self-eq1 : goal.returns-else-self-eq1
returns-else-self-eq1 c = λ w rank starts. hears_none w rank (λ second. omega (arith, c.if-self-eq1.false, starts.0, second))

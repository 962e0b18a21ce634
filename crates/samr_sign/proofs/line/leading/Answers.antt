use Rattle.std.proofs.Common.{arith, rules}
use Rattle.samr_sign.proofs.Lines.{leading_is}
use Rattle.samr_sign.proofs.line.leading.Goals as goal

pub returns-then-count-ne0-clause-value : goal.returns-then-count-ne0-clause-value
returns-then-count-ne0-clause-value c = leading_is c.args.counts.now c.loop-place.place (omega arith) c.loop-place.invariant (λ _. search rules)

pub returns-clause-value : goal.returns-clause-value
returns-clause-value c = leading_is c.args.counts.now _ (omega arith) (λ k h. c.loop-place.invariant k (omega arith)) (λ h. absurd (omega arith))

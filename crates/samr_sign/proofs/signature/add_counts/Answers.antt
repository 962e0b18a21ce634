use Rattle.std.proofs.Common.{arith}
use Rattle.samr_sign.proofs.Sums.{added_by_place}
use Rattle.samr_sign.proofs.signature.add_counts.Goals as goal

pub returns : goal.returns
returns c = added_by_place c.args.to.now c.args.from.now c.loop-place.to c.loop-place.auto.to c.requires.same (λ k h. c.loop-place.invariant.done k (omega arith))

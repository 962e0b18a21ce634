use Rattle.std.proofs.Common.{subst}
use Rattle.std.proofs.lemmas.List.{take_all}
use Rattle.std.proofs.lemmas.List.Elements.{All-more}
use Rattle.std.specs.List.{All}
use Rattle.samr_box.specs.Vector.{AtMost}
use Rattle.samr_ops.specs.declared.rules.Rules.{Rules}
use Rattle.samr_trials_fills.proofs.premises.all_within.Goals as goal

pub loop-r-preserved : goal.loop-r-preserved
loop-r-preserved c =
    let P : Rules → Type 0 = λ r. AtMost r.width c.args.width in
    All-more P c.args.rules.now c.loop-r.r-index _ c.loop-r-test.true c.loop-r.invariant (c.at_most.ensures.means.0 c.if-not-at_most.false)

pub returns : goal.returns
returns c = λ t.
    let P : Rules → Type 0 = λ r. AtMost r.width c.args.width in
    subst (All P) (take_all c.loop-r.r-index c.args.rules.now c.loop-r-test.false) c.loop-r.invariant

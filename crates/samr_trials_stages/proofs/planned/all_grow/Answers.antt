use Rattle.std.proofs.Common.{subst}
use Rattle.std.proofs.lemmas.List.{take_all}
use Rattle.std.proofs.lemmas.List.Elements.{All-more}
use Rattle.std.specs.List.{All}
use Rattle.samr_box.specs.Corners.{IsBox, grown}
use Rattle.samr_level.specs.Refs.{Owned}
use Rattle.samr_trials_stages.proofs.planned.all_grow.Goals as goal

pub loop-b-preserved : goal.loop-b-preserved
loop-b-preserved c =
    let P : Owned → Type 0 = λ b. IsBox (grown b.bx c.args.width) in
    All-more P c.args.level.now c.loop-b.b-index c.b-item.result c.loop-b-test.true c.loop-b.invariant
    (subst P c.b-item.is (subst P c.b.view_is (c.can_grow.ensures c.if-not-can_grow.false)))

pub returns : goal.returns
returns c = λ t.
    let P : Owned → Type 0 = λ b. IsBox (grown b.bx c.args.width) in
    subst (All P) (take_all c.loop-b.b-index c.args.level.now c.loop-b-test.false) c.loop-b.invariant

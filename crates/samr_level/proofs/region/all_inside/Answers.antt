use Rattle.std.proofs.Common.{refl, sym, ◌∙◌}
use Rattle.std.proofs.lemmas.List.{take_all}
use Rattle.std.specs.Prelude.{IsTrue}
use Rattle.samr_box.specs.Corners.{IsBox, holds_box}
use Rattle.samr_boxlist.proofs.Steps.{All_step}
use Rattle.samr_level.proofs.region.all_inside.Goals as goal

pub loop-p-preserved : goal.loop-p-preserved
loop-p-preserved c = record {
  inside = All_step c.args.parts.now c.loop-p.p-index c.p-item.result c.loop-p-test.true c.p-item.is
      (λ p. IsTrue (holds_box c.args.whole p)) c.loop-p.invariant.inside (sym c.lies_in.ensures.value ∙ c.if-not-lies_in.false);
  boxes = All_step c.args.parts.now c.loop-p.p-index c.p-item.result c.loop-p-test.true c.p-item.is
      IsBox c.loop-p.invariant.boxes c.lies_in.ensures.part;
}

pub returns-clause-inside : goal.returns-clause-inside
returns-clause-inside c =
    (λ t. rw (take_all c.loop-p.p-index c.args.parts.now c.loop-p-test.false) at c.loop-p.invariant.inside, λ h. refl)

pub returns-clause-boxes : goal.returns-clause-boxes
returns-clause-boxes c = λ t. rw (take_all c.loop-p.p-index c.args.parts.now c.loop-p-test.false) at c.loop-p.invariant.boxes

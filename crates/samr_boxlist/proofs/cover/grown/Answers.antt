use Rattle.std.proofs.Common.{ap, ◌∙◌, take}
use Rattle.std.proofs.lemmas.List.{take_all}
use Rattle.std.specs.Prelude.{◌∷◌, [], ◌++◌}
use Rattle.samr_box.specs.Corners.{grown}
use Rattle.samr_boxlist.proofs.Steps.{map_step, take_step}
use Rattle.samr_boxlist.proofs.Covering.{near_step}
use Rattle.samr_boxlist.proofs.cover.grown.Goals as goal

pub loop-a-preserved : goal.loop-a-preserved
loop-a-preserved c = record {
  items = map_step c.args.list.now c.loop-a.a-index c.a-item.result c.loop-a-test.true c.a-item.is
      (λ a. grown a c.args.w) _ _ c.loop-a.invariant.items
      (c.in_ok-push.ensures.items ∙ ap (λ g. c.loop-a.wider.items ++ g ∷ []) c.grow.ensures.value);
  cells = λ wide x.
      rw (c.in_ok-push.ensures.items, take_step c.args.list.now c.loop-a.a-index c.a-item.result c.loop-a-test.true c.a-item.is)
      (near_step c.args.w x (take c.loop-a.a-index c.args.list.now) c.loop-a.wider.items c.a-item.result c.grow.result
      (c.loop-a.invariant.cells wide x) (c.grow.ensures.cells wide x));
}

pub returns-clause-cells : goal.returns-clause-cells
returns-clause-cells c =
    rw (take_all c.loop-a.a-index c.args.list.now c.loop-a-test.false) at c.loop-a.invariant.cells

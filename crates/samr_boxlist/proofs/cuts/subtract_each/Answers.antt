use Rattle.std.proofs.Common.{sym, ap, ◌∙◌, cond}
use Rattle.samr_box.specs.Corners.{holds}
use Rattle.samr_boxlist.specs.Covers.{cover}
use Rattle.samr_boxlist.specs.Slabs.{subtracted}
use Rattle.samr_boxlist.proofs.Steps.{fold_step, any_step}
use Rattle.samr_boxlist.proofs.Cutting.{cond_twice}
use Rattle.samr_boxlist.proofs.cuts.subtract_each.Goals as goal

pub loop-b-preserved : goal.loop-b-preserved
loop-b-preserved c = record {
  items = fold_step c.args.boxes.now c.loop-b.b-index c.b-item.result c.loop-b-test.true c.b-item.is
      subtracted c.args.list.items _ _ c.loop-b.invariant.items
      (c.in_ok-left.ensures.value ∙ ap (λ l. subtracted l c.b-item.result) c.as_slice.ensures.value);
  cells = λ x.
      c.in_ok-left.ensures.cells x
      ∙ ap (λ l. cond (holds c.b-item.result x) 0 (cover x l)) c.as_slice.ensures.value
      ∙ ap (λ n. cond (holds c.b-item.result x) 0 n) (c.loop-b.invariant.cells x)
      ∙ cond_twice (holds c.b-item.result x) _ (cover x c.args.list.items)
      ∙ ap (λ t. cond t 0 (cover x c.args.list.items))
      (sym (any_step c.args.boxes.now c.loop-b.b-index c.b-item.result c.loop-b-test.true c.b-item.is (λ m. holds m x)));
  boxes = λ whole. c.in_ok-left.ensures.boxes;
}

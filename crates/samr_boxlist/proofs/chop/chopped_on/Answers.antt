use Rattle.std.proofs.Common.{take, sym, ap, ◌∙◌, ◌+◌}
use Rattle.std.proofs.lemmas.List.{take_all}
use Rattle.std.specs.Prelude.{◌∷◌, []}
use Rattle.samr_boxlist.specs.Covers.{cover}
use Rattle.samr_boxlist.specs.Pieces.{pieces}
use Rattle.samr_boxlist.proofs.Steps.{flat_map_step, take_step}
use Rattle.samr_boxlist.proofs.Covering.{cover-append}
use Rattle.samr_boxlist.proofs.chop.chopped_on.Goals as goal

pub loop-b-preserved : goal.loop-b-preserved
loop-b-preserved c = record {
  items = flat_map_step c.args.list.now c.loop-b.b-index c.b-item.result c.loop-b-test.true c.b-item.is
      (pieces c.args.axis c.args.most) _ _ c.loop-b.invariant.items c.in_ok-push_pieces.ensures.value;
  cells = λ x.
      c.in_ok-push_pieces.ensures.cells x
      ∙ ap (λ n. n + cover x (c.b-item.result ∷ [])) (c.loop-b.invariant.cells x)
      ∙ sym (cover-append x (take c.loop-b.b-index c.args.list.now) (c.b-item.result ∷ []))
      ∙ ap (cover x) (sym (take_step c.args.list.now c.loop-b.b-index c.b-item.result c.loop-b-test.true c.b-item.is));
  boxes = c.in_ok-push_pieces.ensures.boxes c.loop-b.invariant.boxes;
}

pub returns-clause-cells : goal.returns-clause-cells
returns-clause-cells c =
    λ x. c.loop-b.invariant.cells x ∙ ap (cover x) (take_all c.loop-b.b-index c.args.list.now c.loop-b-test.false)

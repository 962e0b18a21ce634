use Rattle.std.proofs.Common.{◌≡◌, ap, ◌∙◌}
use Rattle.std.proofs.lemmas.List.{take_all}
use Rattle.std.specs.List.{filter_map}
use Rattle.std.specs.Prelude.{◌++◌}
use Rattle.std.specs.Option.{option_to_list}
use Rattle.samr_box.specs.Corners.{IsBox, met}
use Rattle.samr_boxlist.proofs.Steps.{filter_map_step, All_push_option}
use Rattle.samr_boxlist.proofs.Covering.{cover-intersect}
use Rattle.samr_boxlist.proofs.cover.intersect.Goals as goal
use Rattle.samr_boxlist.proofs.cover.intersect.Goals.{After-loop-a}

pub loop-a-preserved : goal.loop-a-preserved
loop-a-preserved c = record {
  items = filter_map_step c.args.list.now c.loop-a.a-index c.a-item.result c.loop-a-test.true c.a-item.is
      (λ a. met a c.args.b) _ _ c.loop-a.invariant.items
      (c.in_ok-push_some.ensures ∙ ap (λ o. c.loop-a.parts.items ++ option_to_list o) c.meet.ensures.value);
  boxes = rw c.in_ok-push_some.ensures
      (All_push_option IsBox c.loop-a.parts.items c.meet.result c.loop-a.invariant.boxes c.meet.ensures.boxes);
}

is_whole : (c : After-loop-a) → c.loop-a.parts.items ≡ filter_map (λ a. met a c.args.b) c.args.list.now
is_whole c =
    c.loop-a.invariant.items
    ∙ ap (filter_map (λ a. met a c.args.b)) (take_all c.loop-a.a-index c.args.list.now c.loop-a-test.false)

pub returns-clause-value : goal.returns-clause-value
returns-clause-value c = is_whole c

pub returns-clause-cells : goal.returns-clause-cells
returns-clause-cells c = rw (is_whole c) (λ x. cover-intersect x c.args.list.now c.args.b)

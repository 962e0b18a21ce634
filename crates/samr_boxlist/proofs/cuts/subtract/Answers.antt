use Rattle.std.proofs.Common.{◌≡◌, ap, ◌∙◌}
use Rattle.std.proofs.lemmas.List.{take_all}
use Rattle.std.specs.List.{All}
use Rattle.samr_box.specs.Corners.{IsBox}
use Rattle.samr_box.proofs.Members.{All-from_members, member_of_All}
use Rattle.samr_boxlist.specs.Slabs.{without, subtracted}
use Rattle.samr_boxlist.proofs.Steps.{flat_map_step, All_step}
use Rattle.samr_boxlist.proofs.Cutting.{cover-subtracted, IsBox-subtracted}
use Rattle.samr_boxlist.proofs.cuts.subtract.Goals as goal
use Rattle.samr_boxlist.proofs.cuts.subtract.Goals.{After-loop-a}

pub loop-a-preserved : goal.loop-a-preserved
loop-a-preserved c = (
  flat_map_step c.args.list.now c.loop-a.a-index c.a-item.result c.loop-a-test.true c.a-item.is
      (λ a. without a c.args.b) _ _ c.loop-a.invariant.0 c.in_ok-push_without.ensures.ok,
  All_step c.args.list.now c.loop-a.a-index c.a-item.result c.loop-a-test.true c.a-item.is
      (λ a. IsBox a × IsBox c.args.b) c.loop-a.invariant.1 c.in_ok-push_without.ensures.boxes,
)

is_whole : (c : After-loop-a) → c.loop-a.left.items ≡ subtracted c.args.list.now c.args.b
is_whole c = c.loop-a.invariant.0 ∙ ap (λ l. subtracted l c.args.b) (take_all c.loop-a.a-index c.args.list.now c.loop-a-test.false)

boxes : (c : After-loop-a) → All (λ a. IsBox a × IsBox c.args.b) c.args.list.now
boxes c = rw (take_all c.loop-a.a-index c.args.list.now c.loop-a-test.false) at c.loop-a.invariant.1

pub returns-clause-value : goal.returns-clause-value
returns-clause-value c = is_whole c

pub returns-clause-cells : goal.returns-clause-cells
returns-clause-cells c =
    rw (is_whole c)
    (λ x. cover-subtracted x c.args.list.now c.args.b
    (λ a m. (member_of_All (λ v. IsBox v × IsBox c.args.b) a c.args.list.now (boxes c) m).1.order))

pub returns-clause-boxes : goal.returns-clause-boxes
returns-clause-boxes c =
    rw (is_whole c)
    (All-from_members IsBox (subtracted c.args.list.now c.args.b)
    (IsBox-subtracted c.args.list.now c.args.b (λ a m. member_of_All (λ v. IsBox v × IsBox c.args.b) a c.args.list.now (boxes c) m)))

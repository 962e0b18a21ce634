use Rattle.std.proofs.Common.{◌∙◌, sym, ap, take, ◌+◌}
use Rattle.std.proofs.lemmas.List.{take_all}
use Rattle.std.proofs.lemmas.List.Folds.{list_any_more}
use Rattle.std.specs.Prelude.{Bool, List, ◌&&◌, ◌||◌}
use Rattle.std.specs.List.{list_any}
use Rattle.samr_box.specs.Corners.{Corners, holds}
use Rattle.samr_sign.specs.Fields.{tagged}
use Rattle.samr_tags.specs.declared.seen.Seen.{Seen}
use Rattle.samr_tags.specs.Seeing.{is_for, marks}
use Rattle.samr_tags.proofs.Marks.{goes_on}
use Rattle.samr_tags.proofs.marking.mark_list.Goals as goal

pub loop-one-preserved : goal.loop-one-preserved
loop-one-preserved c =
    let list = c.args.list.now in
    let i = c.loop-one.one-index in
    let one = c.one-item.result in
    let before = c.loop-one.invariant in (
      c.mark_for.ensures.bx ∙ before.0,
      λ x.
          let has : Seen → Bool = λ one. is_for c.args.a one && marks c.args.frame.now c.args.buffer one x in
          goes_on (holds c.args.field.now.bx x) (has one) (list_any has (take i list)) (list_any has (take (i + 1) list))
          (tagged c.args.field.now x) (tagged c.loop-one.field x) (tagged c.mark_for.new.field x)
          (before.1 x)
          (c.mark_for.ensures.cells x ∙ ap (λ (b : Corners). (holds b x && has one) || tagged c.loop-one.field x) before.0)
          (list_any_more has list i one c.loop-one-test.true ∙ ap (λ (o : Seen). list_any has (take i list) || has o) (sym c.one-item.is)),
    )

pub returns-clause-cells : goal.returns-clause-cells
returns-clause-cells c = λ x.
    let has : Seen → Bool = λ one. is_for c.args.a one && marks c.args.frame.now c.args.buffer one x in
    c.loop-one.invariant.1 x
    ∙ ap (λ (l : List Seen). (holds c.args.field.now.bx x && list_any has l) || tagged c.args.field.now x) (take_all c.loop-one.one-index c.args.list.now c.loop-one-test.false)

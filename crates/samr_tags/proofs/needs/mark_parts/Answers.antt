use Rattle.std.proofs.Common.{◌∙◌, sym, ap, take, ◌+◌}
use Rattle.std.proofs.lemmas.List.{take_all}
use Rattle.std.proofs.lemmas.List.Folds.{list_any_more}
use Rattle.std.specs.Prelude.{Bool, List, ◌&&◌, ◌||◌}
use Rattle.std.specs.List.{list_any}
use Rattle.samr_box.specs.Corners.{Corners, holds}
use Rattle.samr_sign.specs.Fields.{tagged}
use Rattle.samr_tags.proofs.Marks.{goes_on}
use Rattle.samr_tags.proofs.needs.mark_parts.Goals as goal

pub loop-b-preserved : goal.loop-b-preserved
loop-b-preserved c =
    let list = c.args.boxes.now in
    let i = c.loop-b.b-index in
    let one = c.b-item.result in
    let before = c.loop-b.invariant in (
      c.mark_part.ensures.bx ∙ before.0,
      λ x.
          let has : Corners → Bool = λ b. holds b x in
          goes_on (holds c.args.field.now.bx x) (has one) (list_any has (take i list)) (list_any has (take (i + 1) list))
          (tagged c.args.field.now x) (tagged c.loop-b.field x) (tagged c.mark_part.new.field x)
          (before.1 x)
          (c.mark_part.ensures.cells x ∙ ap (λ (b : Corners). (holds b x && has one) || tagged c.loop-b.field x) before.0)
          (list_any_more has list i one c.loop-b-test.true ∙ ap (λ (o : Corners). list_any has (take i list) || has o) (sym c.b-item.is)),
    )

pub returns-clause-cells : goal.returns-clause-cells
returns-clause-cells c = λ x.
    let has : Corners → Bool = λ b. holds b x in
    c.loop-b.invariant.1 x
    ∙ ap (λ (l : List Corners). (holds c.args.field.now.bx x && list_any has l) || tagged c.args.field.now x) (take_all c.loop-b.b-index c.args.boxes.now c.loop-b-test.false)

use Rattle.std.proofs.Common.{◌∙◌, sym, ap, take, ◌+◌}
use Rattle.std.proofs.lemmas.List.{take_all}
use Rattle.std.proofs.lemmas.List.Folds.{list_any_more}
use Rattle.std.specs.Prelude.{Bool, List, ◌&&◌, ◌||◌}
use Rattle.std.specs.List.{list_any}
use Rattle.samr_box.specs.Corners.{Corners, holds}
use Rattle.samr_stage.specs.declared.stage.Held.{Held}
use Rattle.samr_sign.specs.Fields.{tagged}
use Rattle.samr_tags.specs.declared.seen.Seen.{Seen}
use Rattle.samr_tags.specs.Seeing.{marked_by}
use Rattle.samr_tags.proofs.Marks.{goes_on}
use Rattle.samr_tags.proofs.marking.mark_held.Goals as goal

pub loop-letter-preserved : goal.loop-letter-preserved
loop-letter-preserved c =
    let held = c.args.held.now in
    let i = c.loop-letter.letter-index in
    let letter = c.letter-item.result in
    let before = c.loop-letter.invariant in (
      c.mark_list.ensures.bx ∙ before.0,
      λ x.
          let by : List Seen → Bool = λ l. marked_by c.args.frame.now c.args.buffer c.args.a l x in
          let has : Held (List Seen) → Bool = λ letter. by letter.body in
          goes_on (holds c.args.field.now.bx x) (has letter) (list_any has (take i held)) (list_any has (take (i + 1) held))
          (tagged c.args.field.now x) (tagged c.loop-letter.field x) (tagged c.mark_list.new.field x)
          (before.1 x)
          (c.mark_list.ensures.cells x
          ∙ ap (λ (b : Corners). (holds b x && by c.as_slice.result.now) || tagged c.loop-letter.field x) before.0
          ∙ ap (λ (l : List Seen). (holds c.args.field.now.bx x && by l) || tagged c.loop-letter.field x) c.as_slice.ensures)
          (list_any_more has held i letter c.loop-letter-test.true ∙ ap (λ (o : Held (List Seen)). list_any has (take i held) || has o) (sym c.letter-item.is)),
    )

pub returns-clause-cells : goal.returns-clause-cells
returns-clause-cells c = λ x.
    let has : Held (List Seen) → Bool = λ letter. marked_by c.args.frame.now c.args.buffer c.args.a letter.body x in
    c.loop-letter.invariant.1 x
    ∙ ap (λ (l : List (Held (List Seen))). (holds c.args.field.now.bx x && list_any has l) || tagged c.args.field.now x)
    (take_all c.loop-letter.letter-index c.args.held.now c.loop-letter-test.false)

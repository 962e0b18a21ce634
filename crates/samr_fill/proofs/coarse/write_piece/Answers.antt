use Rattle.std.proofs.Common.{◌≡◌, ◌∙◌, sym, ap}
use Rattle.std.specs.Prelude.{Option}
use Rattle.samr_box.specs.Corners.{Corners, met}
use Rattle.samr_box.specs.Ratios.{refined}
use Rattle.samr_data.specs.Places.{moved_back}
use Rattle.samr_data.specs.Grids.{over}
use Rattle.samr_fill.specs.Writing.{refined_at}
use Rattle.samr_fill.proofs.Corners.{met_inside}
use Rattle.samr_fill.proofs.Pieces.{holds_box-trans, region_has, under_has, piece_fixes, piece_none}
use Rattle.samr_fill.proofs.coarse.write_piece.Goals as goal

pub write_part-requires-clause-into : goal.write_part-requires-clause-into
write_part-requires-clause-into g c =
    holds_box-trans (over c.args.patch.now) c.args.piece c.in-Some.region c.requires.into
    (met_inside c.args.piece _ c.in-Some.region (sym c.part_under.ensures.value ∙ c.in-Some.is))

pub write_part-requires-clause-here : goal.write_part-requires-clause-here
write_part-requires-clause-here g c = λ x h.
    let by : Corners → Option Corners = λ b. met c.args.piece (refined (moved_back b c.args.offset) c.args.step) in
    let is = ap by (sym c.over.ensures.value) ∙ sym c.part_under.ensures.value ∙ c.in-Some.is in
    under_has c.args.piece (over c.args.source.now) c.args.step c.args.offset c.part_under.ensures.ratio x
    (region_has c.args.piece (over c.args.source.now) c.args.step c.args.offset c.part_under.ensures.ratio c.in-Some.region is x h).1

pub returns-in-Some : goal.returns-in-Some
returns-in-Some g c = λ v each.
    let by : Corners → Option Corners = λ b. met c.args.piece (refined (moved_back b c.args.offset) c.args.step) in
    let is = ap by (sym c.over.ensures.value) ∙ sym c.part_under.ensures.value ∙ c.in-Some.is in
    piece_fixes c.args.piece (over c.args.source.now) c.args.step c.args.offset c.part_under.ensures.ratio v
    (refined_at c.args.strategy.now c.args.source.now c.args.step c.args.offset) c.args.patch.now c.write_part.new.patch c.in-Some.region is c.write_part.ensures each

pub returns-in_default : goal.returns-in_default
returns-in_default g c = λ v each.
    let by : Corners → Option Corners = λ b. met c.args.piece (refined (moved_back b c.args.offset) c.args.step) in
    let is = ap by (sym c.over.ensures.value) ∙ sym c.part_under.ensures.value ∙ c.in_default.is in
    piece_none c.args.piece (over c.args.source.now) c.args.step c.args.offset c.part_under.ensures.ratio v c.args.patch.now is

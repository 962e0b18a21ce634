use Rattle.std.proofs.Common.{◌∙◌, sym, subst}
use Rattle.samr_box.specs.Corners.{Corners, IsBox}
use Rattle.samr_data.specs.Grids.{over}
use Rattle.samr_fill.proofs.Corners.{met_inside}
use Rattle.samr_fill.proofs.Numbers.{InRange-held}
use Rattle.samr_fill.proofs.Pieces.{holds_box-trans, region_has, under_has, piece_fixes, piece_none}
use Rattle.samr_linear.specs.Scratches.{linear_at}
use Rattle.samr_linear.proofs.Taking.{can_take}
use Rattle.samr_linear.proofs.coarse.write_piece.Goals as goal

pub write_linear-requires-clause-into : goal.write_linear-requires-clause-into
write_linear-requires-clause-into g c =
    holds_box-trans (over c.args.patch.now) c.args.piece c.in-Some.region c.requires.into
    (met_inside c.args.piece _ c.in-Some.region (sym c.part_under.ensures.value ∙ c.in-Some.is))

pub write_linear-requires-clause-takes : goal.write_linear-requires-clause-takes
write_linear-requires-clause-takes g c = λ x h.
    let ratio = c.part_under.ensures.ratio in
    let at = region_has c.args.piece c.args.under c.args.step c.args.offset ratio c.in-Some.region (sym c.part_under.ensures.value ∙ c.in-Some.is) x h in
    can_take c.args.stencil.now c.args.source.now c.args.under c.args.step c.args.offset x
    (subst (λ (b : Corners). IsBox b) c.under.view_is c.under.invariant)
    (InRange-held c.args.piece x (subst (λ (b : Corners). IsBox b) c.piece.view_is c.piece.invariant) at.0)
    c.requires.offset c.requires.same_step c.requires.small ratio c.requires.source
    (under_has c.args.piece c.args.under c.args.step c.args.offset ratio x at.1)

pub returns-in-Some : goal.returns-in-Some
returns-in-Some g c = λ v each.
    piece_fixes c.args.piece c.args.under c.args.step c.args.offset c.part_under.ensures.ratio v
    (linear_at c.args.stencil.now c.args.source.now c.args.step c.args.offset) c.args.patch.now c.write_linear.new.patch c.in-Some.region
    (sym c.part_under.ensures.value ∙ c.in-Some.is) c.write_linear.ensures each

pub returns-in_default : goal.returns-in_default
returns-in_default g c = λ v each.
    piece_none c.args.piece c.args.under c.args.step c.args.offset c.part_under.ensures.ratio v c.args.patch.now (sym c.part_under.ensures.value ∙ c.in_default.is)

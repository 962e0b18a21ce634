use Rattle.std.proofs.Common.{◌≡◌, refl, sym, subst, take}
use Rattle.std.proofs.lemmas.List.{take_all}
use Rattle.std.specs.Prelude.{Bool, true, List}
use Rattle.samr_box.specs.declared.vector.IVec.{IVec}
use Rattle.samr_box.specs.Corners.{Corners, holds_box}
use Rattle.samr_data.specs.Grids.{over}
use Rattle.samr_fill.specs.Writing.{takes_from, any_takes_from, Fixes}
use Rattle.samr_linear.specs.Scratches.{linear_at}
use Rattle.samr_fill.proofs.Fixing.{fixes_over, fixes_more}
use Rattle.samr_fill.proofs.Insides.{any_member}
use Rattle.samr_fill.proofs.Numbered.{at_member}
use Rattle.samr_linear.proofs.coarse.write_pieces.Goals as goal

pub write_piece-requires-clause-into : goal.write_piece-requires-clause-into
write_piece-requires-clause-into g c =
    let v = linear_at c.args.stencil.now c.args.source.now c.args.step c.args.offset in
    let taken = any_takes_from c.args.under c.args.step c.args.offset (take c.loop-piece.piece-index c.args.pieces.now) in
    let whole = fixes_over v taken c.args.patch.now c.loop-piece.patch (c.loop-piece.invariant v (λ x t. refl)) in
    let item = c.piece-item.result in
    subst (λ (b : Corners). holds_box b item ≡ true) (sym whole)
    (subst (λ (p : Corners). holds_box (over c.args.patch.now) p ≡ true) (sym c.piece-item.is) (c.requires.into c.loop-piece.piece-index item c.loop-piece-test.true))

pub loop-piece-preserved : goal.loop-piece-preserved
loop-piece-preserved g c = λ v each.
    let b = c.args.under in
    let test : IVec → Corners → Bool = λ x piece. takes_from b c.args.step c.args.offset piece x in
    fixes_more v test c.args.pieces.now c.loop-piece.piece-index c.piece-item.result c.loop-piece-test.true c.piece-item.is
    c.args.patch.now c.loop-piece.patch c.write_piece.new.patch (c.loop-piece.invariant v each)
    (c.write_piece.ensures v
    (λ x t. each x (any_member (test x) c.piece-item.result c.args.pieces.now (at_member c.args.pieces.now c.loop-piece.piece-index c.piece-item.result c.loop-piece-test.true c.piece-item.is) t)))

pub returns : goal.returns
returns g c = λ v each.
    subst (λ (l : List Corners). Fixes v (any_takes_from c.args.under c.args.step c.args.offset l) c.args.patch.now c.loop-piece.patch)
    (take_all c.loop-piece.piece-index c.args.pieces.now c.loop-piece-test.false) (c.loop-piece.invariant v each)

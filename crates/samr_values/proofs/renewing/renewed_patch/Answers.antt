use Rattle.std.proofs.Common.{◌≡◌, ap, ◌∙◌, subst, sym}
use Rattle.std.specs.Prelude.{◌&&◌}
use Rattle.samr_box.specs.declared.vector.IVec.{IVec}
use Rattle.samr_box.specs.Corners.{Corners, holds}
use Rattle.samr_data.specs.Grids.{Grid, grid_of}
use Rattle.samr_ops.specs.declared.rules.Rules.{Rules}
use Rattle.samr_values.specs.Patches.{poured}
use Rattle.samr_values.specs.Parcels.{is_told, is_told_under, Tell, TellUnder}
use Rattle.samr_values.proofs.Told.{told_inside, renewed_grid, all_parcels}
use Rattle.samr_values.proofs.renewing.renewed_patch.Goals as goal

pub returns : goal.returns
returns g c = λ value tells.
    let b = c.args.bx in
    let f = c.args.field in
    let step = c.args.step in
    let list = c.args.parcels.now in
    let w = c.args.strategy.now.width in
    let u = tells.under_values in
    let v = tells.own_values in
    let zero : Grid = grid_of b w (λ _. 0) in
    let made : c.in_ok-patch.patch ≡ zero = c.in_ok-patch.ensures ∙ ap (λ (k : IVec). let p : Grid = grid_of b k (λ _. 0) in p) (ap (λ (r : Rules). r.width) c.rules.ensures.value) in
    let Under : Grid → Type 0 = λ p. c.pour_under.new.patch ≡ poured p (λ x. holds p.bx x && is_told_under f step p.bx list x) u in
    let first = subst Under made (c.pour_under.ensures.values u (subst (λ (p : Grid). TellUnder f step c.args.strategy.now p.bx list u) (sym made) tells.under)) in
    let box : c.pour_under.new.patch.bx ≡ b = c.pour_under.ensures.bx ∙ ap (λ (p : Grid). p.bx) made in
    let second = c.pour.ensures.values v (subst (λ (k : Corners). Tell f k list v) (sym box) tells.own) in
    second
    ∙ ap (λ (k : Corners). poured c.pour_under.new.patch (is_told f k list) v) box
    ∙ ap (λ (p : Grid). poured p (is_told f b list) v) first
    ∙ renewed_grid b w (is_told_under f step b list) (is_told f b list) u v value c.requires.room.order tells.covered
    (λ x t. told_inside f b list x (all_parcels list c.requires.parcels) t) tells.is

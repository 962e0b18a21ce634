use Rattle.std.proofs.Common.{ap, ◌∙◌, sym, ◌++◌, ◌∷◌, [], map, take, cond}
use Rattle.std.proofs.lemmas.List.{map_more, take_all}
use Rattle.std.specs.Prelude.{List}
use Rattle.samr_box.specs.Corners.{Corners, holds}
use Rattle.samr_data.specs.Grids.{Grid, grid_of}
use Rattle.samr_values.proofs.Written.{item_member}
use Rattle.samr_values.proofs.renewing.renewed_field.Goals as goal

pub renewed_patch-requires-clause-room : goal.renewed_patch-requires-clause-room
renewed_patch-requires-clause-room g c =
    let b = c.b-item.result in
    c.requires.room b (item_member c.args.boxes.now c.loop-b.b-index b b c.loop-b-test.true c.b-item.is)

pub renewed_patch-requires-clause-fits : goal.renewed_patch-requires-clause-fits
renewed_patch-requires-clause-fits g c =
    let b = c.b-item.result in
    c.requires.fits b (item_member c.args.boxes.now c.loop-b.b-index b b c.loop-b-test.true c.b-item.is)

pub loop-b-preserved : goal.loop-b-preserved
loop-b-preserved g c = λ value tells.
    let b = c.b-item.result in
    let list = c.args.boxes.now in
    let i = c.loop-b.b-index in
    let make : Corners → Grid = λ b. grid_of b c.args.strategy.now.width (λ x. cond (holds b x) (value x) 0) in
    c.in_ok-push.ensures.items
    ∙ ap (λ (p : Grid). c.loop-b.patches.items ++ p ∷ []) (c.in_ok-patch.ensures value (tells b (item_member list i b b c.loop-b-test.true c.b-item.is)))
    ∙ ap (λ (l : List Grid). l ++ make b ∷ []) (c.loop-b.invariant value tells)
    ∙ ap (λ (d : Corners). map make (take i list) ++ make d ∷ []) c.b-item.is
    ∙ sym (map_more make list i b c.loop-b-test.true)

pub returns : goal.returns
returns g c = λ value tells.
    c.loop-b.invariant value tells
    ∙ ap (λ (l : List Corners). map (λ b. grid_of b c.args.strategy.now.width (λ x. cond (holds b x) (value x) 0)) l) (take_all c.loop-b.b-index c.args.boxes.now c.loop-b-test.false)

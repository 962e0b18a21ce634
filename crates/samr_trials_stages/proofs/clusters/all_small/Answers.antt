use Rattle.std.proofs.Common.{◌<◌, ◌^◌, subst}
use Rattle.std.proofs.lemmas.List.{take_all}
use Rattle.std.proofs.lemmas.List.Elements.{All-more}
use Rattle.std.specs.List.{All}
use Rattle.samr_box.specs.Corners.{Corners, IsBox, cells_of}
use Rattle.samr_trials_stages.proofs.clusters.all_small.Goals as goal

pub loop-b-preserved : goal.loop-b-preserved
loop-b-preserved c =
    let P : Corners → Type 0 = λ b. IsBox b × (cells_of b < 2 ^ 63) in
    All-more P c.args.boxes.now c.loop-b.b-index c.b-item.result c.loop-b-test.true c.loop-b.invariant (subst P c.b-item.is (c.is_small.ensures c.if-not-is_small.false))

pub returns : goal.returns
returns c = λ t.
    let P : Corners → Type 0 = λ b. IsBox b × (cells_of b < 2 ^ 63) in
    subst (All P) (take_all c.loop-b.b-index c.args.boxes.now c.loop-b-test.false) c.loop-b.invariant

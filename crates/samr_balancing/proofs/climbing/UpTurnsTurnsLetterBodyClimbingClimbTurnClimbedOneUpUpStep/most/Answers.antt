use Rattle.std.proofs.Common.{arith, ◌∙◌, ap}
use Rattle.samr_tree.specs.Tree.{bottom}
use Rattle.samr_balancing.proofs.HandLaws.{low, ups_are}
use Rattle.samr_balancing.proofs.climbing.UpTurnsTurnsLetterBodyClimbingClimbTurnClimbedOneUpUpStep.most.Goals as goal

pub overflow_add-result : goal.overflow_add-result
overflow_add-result g c =
    let w = c.requires.0 in
    let r = c.requires.1 in
    let k = c.requires.2.0 in
    let high = c.height.ensures.bottom ∙ ap bottom (c.ranks.ensures w.at r k.0.0) in
    omega (arith, low w.at r _ _ _ k.0.0.0 k.0.0.1, high)

pub returns : goal.returns
returns g c = λ w r k.
    let high = c.height.ensures.bottom ∙ ap bottom (c.ranks.ensures w.at r k.0.0.0) in
    omega (arith, ups_are w, high)

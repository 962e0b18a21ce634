use Rattle.std.proofs.Common.{arith, ◌∙◌, ap}
use Rattle.samr_tree.specs.Tree.{bottom}
use Rattle.samr_balancing.proofs.HandLaws.{downs_are}
use Rattle.samr_balancing.proofs.falling.DownTurnsTurnsLetterBodyFallingFallTurnHandedOneDownDownStep.most.Goals as goal

pub returns : goal.returns
returns g c = λ w r k.
    let high = c.height.ensures.bottom ∙ ap bottom (c.ranks.ensures w.at r k.0.0.0) in
    omega (arith, downs_are w, high)

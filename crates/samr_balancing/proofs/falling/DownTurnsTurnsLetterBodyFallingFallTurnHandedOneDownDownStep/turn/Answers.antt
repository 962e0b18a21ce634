use Rattle.std.proofs.Common.{◌∙◌, ap}
use Rattle.samr_tree.specs.Tree.{bottom}
use Rattle.samr_balancing.proofs.HandLaws.{down_on, down_over}
use Rattle.samr_balancing.proofs.falling.DownTurnsTurnsLetterBodyFallingFallTurnHandedOneDownDownStep.turn.Goals as goal

pub returns-then-round-height-clause-chosen : goal.returns-then-round-height-clause-chosen
returns-then-round-height-clause-chosen g c = λ w r k.
    let high = c.height.ensures.bottom ∙ ap bottom (c.ranks.ensures w.at r k.0.0.0) in
    let on = down_on w r _ _ _ k.0.0.0.0 k.0.0.0.1 c.args.now.round c.args.now.hand c.height.result high c.if-round-height.true k.1 in
    (on.0, (k.0, on.1))

pub returns-clause-chosen : goal.returns-clause-chosen
returns-clause-chosen g c = λ w r k.
    let high = c.height.ensures.bottom ∙ ap bottom (c.ranks.ensures w.at r k.0.0.0) in
    let over = down_over w r _ _ _ k.0.0.0.0 k.0.0.0.1 c.args.now.round c.args.now.hand c.height.result high c.if-round-height.false k.1 in
    (over.0, (k.0, over.1))

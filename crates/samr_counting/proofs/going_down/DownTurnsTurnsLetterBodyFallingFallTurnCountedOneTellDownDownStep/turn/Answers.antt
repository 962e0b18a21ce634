use Rattle.samr_counting.proofs.LoadSums.{down_on, down_over}
use Rattle.samr_counting.proofs.going_down.DownTurnsTurnsLetterBodyFallingFallTurnCountedOneTellDownDownStep.turn.Goals as goal

pub returns-then-round-height_of-clause-chosen : goal.returns-then-round-height_of-clause-chosen
returns-then-round-height_of-clause-chosen g c = λ w r h.
    let on = down_on w r h.0.0.1 h.0.0.0.few h.0.0.0.within c.height_of.result c.args.now.round c.args.now.number (c.height_of.ensures.down w.at r h.0.0) c.if-round-height_of.true h.1 in
    (on.0, (h.0, on.1))

pub returns-clause-chosen : goal.returns-clause-chosen
returns-clause-chosen g c = λ w r h.
    let over = down_over w r h.0.0.1 h.0.0.0.few h.0.0.0.within c.height_of.result c.args.now.round c.args.now.number (c.height_of.ensures.down w.at r h.0.0) c.if-round-height_of.false h.1 in
    (over.0, (h.0, over.1))

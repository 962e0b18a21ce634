use Rattle.samr_connecting.proofs.NewBoxes.{pieces_fit, boxes_are}
use Rattle.samr_connecting.proofs.modifying.boxes.Goals as goal

pub own_news-requires : goal.own_news-requires
own_news-requires g c =
    let w = c.requires.0 in
    pieces_fit w.at.setting.problem w.pass c.requires.2.1.can c.requires.1 c.args.pieces.now c.requires.3 c.lower.result (c.lower.ensures w c.requires.1 c.requires.2)

pub returns : goal.returns
returns g c = λ w r h are.
    boxes_are w.at.setting.problem w.pass h.1.can r c.args.pieces.now are c.rank.result c.lower.result c.in_ok-boxes.boxes (c.rank.ensures w r h) (c.lower.ensures w r h) c.in_ok-boxes.ensures

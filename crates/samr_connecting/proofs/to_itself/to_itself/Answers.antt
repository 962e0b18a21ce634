use Rattle.samr_wholes.specs.Bridges.{to_itself}
use Rattle.samr_connecting.proofs.Sides.{own_sides, own_space}
use Rattle.samr_connecting.proofs.to_itself.to_itself.Goals as goal

pub bridge-requires : goal.bridge-requires
bridge-requires g c =
    let w = c.requires.0 in
    let r = c.requires.1 in
    let h = c.requires.2 in
    let under = c.args.joined.now.under in
    (w, r, h.0, own_space w r h.0.0.problem h.0.1 under c.in_ok-west.west (own_sides w r h.0.0.problem h.0.1 under c.in_ok-west.west h.2 c.in_ok-west.ensures))

pub returns : goal.returns
returns g c = λ w r h.
    c.in_ok-stage.ensures w r (to_itself w.at.setting.problem w.pass) h.0 (own_sides w r h.0.0.problem h.0.1 c.args.joined.now.under c.in_ok-west.west h.2 c.in_ok-west.ensures)

use Rattle.samr_msg.specs.Places.{old_above}
use Rattle.samr_wholes.specs.Bridges.{to_old}
use Rattle.samr_connecting.proofs.Sides.{old_sides, old_space}
use Rattle.samr_connecting.proofs.to_old.to_old.Goals as goal

pub bridge-requires : goal.bridge-requires
bridge-requires g c =
    let w = c.requires.0 in
    let r = c.requires.1 in
    let h = c.requires.2 in
    let under = c.args.joined.now.under in (
      w,
      r,
      h.0,
      old_space w r h.0.0.problem h.0.1 under c.in_ok-west.west
          (old_sides w r h.0.0.problem h.0.1 under c.in_ok-west.west c.old_down-down.result.now h.2 c.in_ok-west.ensures (c.old_down-down.ensures w r h.0 c.requires.3)),
    )

pub returns : goal.returns
returns g c = λ w r h some.
    c.in_ok-stage.ensures w r (to_old w.at.setting.problem w.pass (old_above w)) h.0
    (old_sides w r h.0.0.problem h.0.1 c.args.joined.now.under c.in_ok-west.west c.old_down-down.result.now h.2 c.in_ok-west.ensures (c.old_down-down.ensures w r h.0 some))

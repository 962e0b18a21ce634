use Rattle.std.proofs.Common.{sym, subst}
use Rattle.samr_box.specs.declared.vector.IVec.{IVec}
use Rattle.samr_box.specs.Vector.{InRange}
use Rattle.samr_connecting.proofs.Starts.{width_range, bridge_begins}
use Rattle.samr_connecting.proofs.bridging.bridge.Goals as goal

pub start-requires-clause-width : goal.start-requires-clause-width
start-requires-clause-width g c =
    let w = c.requires.0 in
    let h = c.requires.2 in
    subst (λ (v : IVec). InRange v) (sym (c.width.ensures w c.requires.1 h)) (width_range w.at.setting.problem w.pass h.1.can)

pub returns : goal.returns
returns g c = λ w r b h sides.
    c.in_ok-stage.ensures b r (bridge_begins w r b c.rank.result c.ranks.result c.frame.result c.width.result c.args.east.now c.args.west.now h.1 h.0.within
    (c.rank.ensures w r h) (c.ranks.ensures w r h) (c.frame.ensures w r h) (c.width.ensures w r h) sides)

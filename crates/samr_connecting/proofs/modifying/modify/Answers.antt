use Rattle.std.proofs.Common.{refl}
use Rattle.samr_connecting.proofs.Starts.{cluster_width, cluster_space, modify_begins}
use Rattle.samr_connecting.proofs.modifying.modify.Goals as goal

pub start-requires-clause-width : goal.start-requires-clause-width
start-requires-clause-width g c =
    let w = c.requires.0 in
    cluster_width w.at.setting.problem w.pass c.requires.1 c.args.clusters.now c.requires.2.1.can c.requires.3

pub start-requires-clause-frame : goal.start-requires-clause-frame
start-requires-clause-frame g c =
    let w = c.requires.0 in
    cluster_space w.at.setting.problem w.pass c.requires.1 c.frame.result c.args.clusters.now c.requires.2.1.can (c.frame.ensures w c.requires.1 c.requires.2) c.requires.3

pub returns : goal.returns
returns g c = λ w r h same kept are.
    c.in_ok-stage.ensures _ r (modify_begins w r c.rank.result c.ranks.result c.frame.result c.args.clusters.now c.args.moves c.args.moves c.args.pieces.now h.1 h.0.within
    (c.rank.ensures w r h) (c.ranks.ensures w r h) (c.frame.ensures w r h) same refl kept are)

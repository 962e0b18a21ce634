use Rattle.samr_connecting.proofs.NewBoxes.{bases_fit, heads_fit, under_is}
use Rattle.samr_connecting.proofs.modifying.under.Goals as goal

pub refined-requires-clause-bases : goal.refined-requires-clause-bases
refined-requires-clause-bases g c =
    let w = c.requires.0 in
    bases_fit w.at.setting.problem w.pass c.requires.2.1.can c.requires.1 c.args.placed.now c.lower.result c.requires.3 (c.lower.ensures w c.requires.1 c.requires.2)

pub refined-requires-clause-heads : goal.refined-requires-clause-heads
refined-requires-clause-heads g c =
    let w = c.requires.0 in
    heads_fit w.at.setting.problem w.pass c.requires.2.1.can c.requires.1 c.args.placed.now c.lower.result c.requires.3 (c.lower.ensures w c.requires.1 c.requires.2)

pub returns : goal.returns
returns g c = λ w r h is.
    under_is w.at.setting.problem w.pass h.1.can r c.args.placed.now c.lower.result is (c.lower.ensures w r h) c.in_ok-pair.pair c.in_ok-pair.ensures

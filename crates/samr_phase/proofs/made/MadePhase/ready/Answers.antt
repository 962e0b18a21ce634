use Rattle.samr_phase.proofs.Sequels.{hears_on}
use Rattle.samr_phase.proofs.made.MadePhase.ready.Goals as goal

pub ready-requires : goal.ready-requires
ready-requires g c =
    let r = c.requires in
    (r.0, g.F.Making.after r.1, r.2, r.3, r.4, r.5, hears_on (g.met.F.Making.same_ranks r.1) r.6)

pub returns : goal.returns
returns g c = λ run w rank here rest stands hears.
    c.ready.ensures run (g.F.Making.after w) rank here rest stands (hears_on (g.met.F.Making.same_ranks w) hears)

use Rattle.samr_phase.proofs.Sequels.{carries_on}
use Rattle.samr_phase.proofs.made.MadePhase.enter.Goals as goal

pub enter-requires : goal.enter-requires
enter-requires g c =
    let r = c.requires in
    (g.F.Making.after r.0, r.1, r.2, r.3, carries_on (g.met.F.Making.same_ranks r.0) r.4)

pub returns-clause-letters : goal.returns-clause-letters
returns-clause-letters g c = λ w here rest stands carries.
    c.in_ok-letters.ensures.letters (g.F.Making.after w) here rest stands (carries_on (g.met.F.Making.same_ranks w) carries)

pub returns-clause-entered : goal.returns-clause-entered
returns-clause-entered g c = λ w here rest stands.
    c.in_ok-letters.ensures.entered (g.F.Making.after w) here rest stands

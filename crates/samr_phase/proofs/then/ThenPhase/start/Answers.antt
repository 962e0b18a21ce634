use Rattle.samr_phase.proofs.then.ThenPhase.start.Goals as goal

pub go_on-requires : goal.go_on-requires
go_on-requires g c =
    let w = c.requires.0 in
    (w, c.requires.1, g.A.Phase.fragments w, c.in_ok-went.ensures.goes w c.requires.1 c.requires.2)

pub returns-clause-goes : goal.returns-clause-goes
returns-clause-goes g c = λ w rank holds.
    c.in_ok-on.ensures.goes w rank (g.A.Phase.fragments w) (c.in_ok-went.ensures.goes w rank holds)

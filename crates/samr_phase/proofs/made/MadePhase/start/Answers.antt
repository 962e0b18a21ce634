use Rattle.samr_phase.proofs.Sequels.{went_on, went_over, named_on}
use Rattle.samr_phase.proofs.made.MadePhase.start.Goals as goal

pub returns-in-On-clause-goes : goal.returns-in-On-clause-goes
returns-in-On-clause-goes g c = λ w rank holds.
    let v = g.F.Making.after w in
    let went = c.in_ok-inner.ensures.goes v rank (c.in_ok-made.ensures.after w rank holds) in
    let on = went_on (λ p. g.A.Phase.stands p v rank) (λ out. g.O.Part.holds out (g.A.Phase.after v) rank) rank (g.A.Phase.fragments v) c.in_ok-inner.field-0 c.in-On.inner c.in-On.is went in
    named_on (λ q. q.inner) (λ p. g.A.Phase.stands p v rank) rank (g.A.Phase.fragments v) _ on

pub returns-in-Over-clause-goes : goal.returns-in-Over-clause-goes
returns-in-Over-clause-goes g c = λ w rank holds.
    let v = g.F.Making.after w in
    let went = c.in_ok-inner.ensures.goes v rank (c.in_ok-made.ensures.after w rank holds) in
    went_over (λ p. g.A.Phase.stands p v rank) (λ out. g.O.Part.holds out (g.A.Phase.after v) rank) rank (g.A.Phase.fragments v) c.in_ok-inner.field-0 c.in-Over.out c.in-Over.is went

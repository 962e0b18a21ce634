use Rattle.samr_phase.proofs.Sequels.{hears_all_on, went_on, went_over, named_on}
use Rattle.samr_phase.proofs.made.MadePhase.finish.Goals as goal

pub finish-requires : goal.finish-requires
finish-requires g c =
    let r = c.requires in
    (r.0, g.F.Making.after r.1, r.2, r.3, r.4, r.5, hears_all_on (g.met.F.Making.same_ranks r.1) r.6)

pub returns-in-On : goal.returns-in-On
returns-in-On g c = λ run w rank here rest stands hears.
    let v = g.F.Making.after w in
    let went = c.in_ok-inner.ensures run v rank here rest stands (hears_all_on (g.met.F.Making.same_ranks w) hears) in
    let on = went_on (λ p. g.A.Phase.stands p v rank) (λ out. g.O.Part.holds out (g.A.Phase.after v) rank) rank rest c.in_ok-inner.field-0 c.in-On.inner c.in-On.is went in
    named_on (λ q. q.inner) (λ p. g.A.Phase.stands p v rank) rank rest _ on

pub returns-in-Over : goal.returns-in-Over
returns-in-Over g c = λ run w rank here rest stands hears.
    let v = g.F.Making.after w in
    let went = c.in_ok-inner.ensures run v rank here rest stands (hears_all_on (g.met.F.Making.same_ranks w) hears) in
    went_over (λ p. g.A.Phase.stands p v rank) (λ out. g.O.Part.holds out (g.A.Phase.after v) rank) rank rest c.in_ok-inner.field-0 c.in-Over.out c.in-Over.is went

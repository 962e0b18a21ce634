use Rattle.samr_phase.proofs.Sequels.{went_on, went_over, goes_first, goes_second, goes_over}
use Rattle.samr_phase.proofs.then.go_on.Goals as goal

pub returns-in-On-clause-goes : goal.returns-in-On-clause-goes
returns-in-On-clause-goes g c = λ w rank rest goes.
    let v = g.A.Phase.after w in
    let on = went_on (λ p. g.A.Phase.stands p w rank) (λ out. g.X.Part.holds out v rank) rank rest c.args.went c.in-On.a c.in-On.is goes in
    goes_first g.A.Phase.stands g.C.Phase.stands w v (g.C.Phase.fragments v) rank rest c.in-On.a _ on

pub returns-in-On-2-clause-goes : goal.returns-in-On-2-clause-goes
returns-in-On-2-clause-goes g c = λ w rank rest goes.
    let v = g.A.Phase.after w in
    let over = went_over (λ p. g.A.Phase.stands p w rank) (λ out. g.X.Part.holds out v rank) rank rest c.args.went c.in-Over.out c.in-Over.is goes in
    let next = c.in_ok-c-in-Over.ensures.goes v rank over.given in
    let on = went_on (λ p. g.C.Phase.stands p v rank) (λ out. g.O.Part.holds out (g.C.Phase.after v) rank) rank (g.C.Phase.fragments v) c.in_ok-c-in-Over.field-0 c.in-On-2.c c.in-On-2.is next in
    goes_second g.A.Phase.stands g.C.Phase.stands w v (g.C.Phase.fragments v) rank rest c.in-On-2.c over.skips on

pub returns-in-Over-2-clause-goes : goal.returns-in-Over-2-clause-goes
returns-in-Over-2-clause-goes g c = λ w rank rest goes.
    let v = g.A.Phase.after w in
    let over = went_over (λ p. g.A.Phase.stands p w rank) (λ out. g.X.Part.holds out v rank) rank rest c.args.went c.in-Over.out c.in-Over.is goes in
    let next = c.in_ok-c-in-Over.ensures.goes v rank over.given in
    let last = went_over (λ p. g.C.Phase.stands p v rank) (λ out. g.O.Part.holds out (g.C.Phase.after v) rank) rank (g.C.Phase.fragments v) c.in_ok-c-in-Over.field-0 c.in-Over-2.out c.in-Over-2.is next in
    goes_over (λ out. g.O.Part.holds out (g.C.Phase.after v) rank) rank rest (g.C.Phase.fragments v) c.in-Over-2.out over.skips last

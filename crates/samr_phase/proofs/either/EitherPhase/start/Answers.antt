use Rattle.std.proofs.Common.{refl, ◌∙◌}
use Rattle.samr_phase.proofs.Choosing.{is_one, is_other, start_one, start_other, start_one_over, start_other_over}
use Rattle.samr_phase.proofs.Sequels.{went_on, went_over}
use Rattle.samr_phase.proofs.either.EitherPhase.start.Goals as goal

pub returns-in-On-2-clause-goes : goal.returns-in-On-2-clause-goes
returns-in-On-2-clause-goes g c = λ w rank holds.
    let is = is_one g.L.Choice.test g.L.Choice.one g.L.Choice.other g.X.Part.holds g.Y.Part.holds w rank c.in_ok-x.field-0 c.in-On.x c.in-On.is (c.in_ok-x.ensures.chosen w rank holds) in
    let went = c.in_ok-a-in-On.ensures.goes (g.L.Choice.one w) rank is.1 in
    let on = went_on (λ p. g.A.Phase.stands p (g.L.Choice.one w) rank) (λ out. g.O.Part.holds out (g.A.Phase.after (g.L.Choice.one w)) rank) rank (g.A.Phase.fragments (g.L.Choice.one w)) c.in_ok-a-in-On.field-0 c.in-On-2.a c.in-On-2.is went in
    start_one g.A.Phase.stands g.C.Phase.stands (g.L.Choice.one w) (g.L.Choice.other w) (g.L.Choice.test w) rank (g.A.Phase.fragments (g.L.Choice.one w)) (g.C.Phase.fragments (g.L.Choice.other w)) c.in-On-2.a _ is.0 on

pub returns-in-Over-2-clause-goes : goal.returns-in-Over-2-clause-goes
returns-in-Over-2-clause-goes g c = λ w rank holds.
    let is = is_one g.L.Choice.test g.L.Choice.one g.L.Choice.other g.X.Part.holds g.Y.Part.holds w rank c.in_ok-x.field-0 c.in-On.x c.in-On.is (c.in_ok-x.ensures.chosen w rank holds) in
    let went = c.in_ok-a-in-On.ensures.goes (g.L.Choice.one w) rank is.1 in
    let over = went_over (λ p. g.A.Phase.stands p (g.L.Choice.one w) rank) (λ out. g.O.Part.holds out (g.A.Phase.after (g.L.Choice.one w)) rank) rank (g.A.Phase.fragments (g.L.Choice.one w)) c.in_ok-a-in-On.field-0 c.in-Over-2.out c.in-Over-2.is went in
    start_one_over g.O.Part.holds (g.A.Phase.after (g.L.Choice.one w)) (g.C.Phase.after (g.L.Choice.other w)) (g.L.Choice.test w) rank (g.A.Phase.fragments (g.L.Choice.one w)) (g.C.Phase.fragments (g.L.Choice.other w)) c.in-Over-2.out is.0 over

pub returns-in-On-3-clause-goes : goal.returns-in-On-3-clause-goes
returns-in-On-3-clause-goes g c = λ w rank holds.
    let is = is_other g.L.Choice.test g.L.Choice.one g.L.Choice.other g.X.Part.holds g.Y.Part.holds w rank c.in_ok-x.field-0 c.in-Over.y c.in-Over.is (c.in_ok-x.ensures.chosen w rank holds) in
    let went = c.in_ok-c-in-Over.ensures.goes (g.L.Choice.other w) rank is.1 in
    let on = went_on (λ p. g.C.Phase.stands p (g.L.Choice.other w) rank) (λ out. g.O.Part.holds out (g.C.Phase.after (g.L.Choice.other w)) rank) rank (g.C.Phase.fragments (g.L.Choice.other w)) c.in_ok-c-in-Over.field-0 c.in-On-3.c c.in-On-3.is went in
    start_other g.A.Phase.stands g.C.Phase.stands (g.L.Choice.one w) (g.L.Choice.other w) (g.L.Choice.test w) rank (g.A.Phase.fragments (g.L.Choice.one w)) (g.C.Phase.fragments (g.L.Choice.other w)) c.in-On-3.c is.0 on

pub returns-in-Over-3-clause-goes : goal.returns-in-Over-3-clause-goes
returns-in-Over-3-clause-goes g c = λ w rank holds.
    let is = is_other g.L.Choice.test g.L.Choice.one g.L.Choice.other g.X.Part.holds g.Y.Part.holds w rank c.in_ok-x.field-0 c.in-Over.y c.in-Over.is (c.in_ok-x.ensures.chosen w rank holds) in
    let went = c.in_ok-c-in-Over.ensures.goes (g.L.Choice.other w) rank is.1 in
    let over = went_over (λ p. g.C.Phase.stands p (g.L.Choice.other w) rank) (λ out. g.O.Part.holds out (g.C.Phase.after (g.L.Choice.other w)) rank) rank (g.C.Phase.fragments (g.L.Choice.other w)) c.in_ok-c-in-Over.field-0 c.in-Over-3.out c.in-Over-3.is went in
    start_other_over g.O.Part.holds (g.A.Phase.after (g.L.Choice.one w)) (g.C.Phase.after (g.L.Choice.other w)) (g.L.Choice.test w) rank (g.A.Phase.fragments (g.L.Choice.one w)) (g.C.Phase.fragments (g.L.Choice.other w)) c.in-Over-3.out is.0 over

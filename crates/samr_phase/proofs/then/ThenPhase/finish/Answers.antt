use Rattle.std.proofs.Common.{refl, sym, subst}
use Rattle.samr_phase.specs.Going.{Goes}
use Rattle.samr_phase.specs.Sequel.{IsIn}
use Rattle.samr_phase.proofs.Sequels.{in_first, in_second, hears_all_on, went_on, went_over, second_on}
use Rattle.samr_phase.proofs.then.ThenPhase.finish.Goals as goal

pub finish-requires : goal.finish-requires
finish-requires g c =
    let r = c.requires in
    let v = g.A.Phase.after r.1 in
    let is = in_first g.A.Phase.stands g.C.Phase.stands r.1 v (g.C.Phase.fragments v) r.2 c.args.self c.in-First.a r.3 r.4 _ c.in-First.is r.5 in
    (r.0, r.1, r.2, r.3, is.left, is.there, r.6)

pub go_on-requires : goal.go_on-requires
go_on-requires g c =
    let r = c.requires in
    let v = g.A.Phase.after r.1 in
    let is = in_first g.A.Phase.stands g.C.Phase.stands r.1 v (g.C.Phase.fragments v) r.2 c.args.self c.in-First.a r.3 r.4 _ c.in-First.is r.5 in
    (r.1, r.2, is.left, c.in_ok-went-in-First.ensures r.0 r.1 r.2 r.3 is.left is.there r.6)

pub finish-requires-in-Second : goal.finish-requires-in-Second
finish-requires-in-Second g c =
    let r = c.requires in
    let v = g.A.Phase.after r.1 in
    let is = in_second g.A.Phase.stands g.C.Phase.stands r.1 v (g.C.Phase.fragments v) r.2 c.args.self c.in-Second.c r.3 r.4 _ c.in-Second.is r.5 in
    (r.0, v, r.2, r.3, r.4, is, hears_all_on (g.met.A.Phase.same_ranks r.1) r.6)

pub returns-in_ok-on-in-First : goal.returns-in_ok-on-in-First
returns-in_ok-on-in-First g c = λ run w rank here rest stands hears.
    let v = g.A.Phase.after w in
    let is = in_first g.A.Phase.stands g.C.Phase.stands w v (g.C.Phase.fragments v) rank c.args.self c.in-First.a here rest _ c.in-First.is stands in
    let went = c.in_ok-went-in-First.ensures run w rank here is.left is.there hears in
    subst (λ fs. Goes (λ p. IsIn g.A.Phase.stands g.C.Phase.stands w v (g.C.Phase.fragments v) rank p) (λ out. g.O.Part.holds out (g.C.Phase.after v) rank) rank fs c.in_ok-on-in-First.on) (sym is.rest_is) (c.in_ok-on-in-First.ensures.goes w rank is.left went)

pub returns-in-On : goal.returns-in-On
returns-in-On g c = λ run w rank here rest stands hears.
    let v = g.A.Phase.after w in
    let is = in_second g.A.Phase.stands g.C.Phase.stands w v (g.C.Phase.fragments v) rank c.args.self c.in-Second.c here rest _ c.in-Second.is stands in
    let went = c.in_ok-c-in-Second.ensures run v rank here rest is (hears_all_on (g.met.A.Phase.same_ranks w) hears) in
    let on = went_on (λ p. g.C.Phase.stands p v rank) (λ out. g.O.Part.holds out (g.C.Phase.after v) rank) rank rest c.in_ok-c-in-Second.field-0 c.in-On.c c.in-On.is went in
    second_on g.A.Phase.stands g.C.Phase.stands w v (g.C.Phase.fragments v) rank rest c.in-On.c on

pub returns-in-Over : goal.returns-in-Over
returns-in-Over g c = λ run w rank here rest stands hears.
    let v = g.A.Phase.after w in
    let is = in_second g.A.Phase.stands g.C.Phase.stands w v (g.C.Phase.fragments v) rank c.args.self c.in-Second.c here rest _ c.in-Second.is stands in
    let went = c.in_ok-c-in-Second.ensures run v rank here rest is (hears_all_on (g.met.A.Phase.same_ranks w) hears) in
    went_over (λ p. g.C.Phase.stands p v rank) (λ out. g.O.Part.holds out (g.C.Phase.after v) rank) rank rest c.in_ok-c-in-Second.field-0 c.in-Over.out c.in-Over.is went

use Rattle.std.proofs.Common.{◌≡◌, ◌∙◌, sym, refl}
use Rattle.samr_phase.proofs.Sequels.{hears_all_on, went_on, went_over}
use Rattle.samr_phase.proofs.Turnings.{within_on, within_over}
use Rattle.samr_phase.proofs.repeat.RepeatPhase.finish.Goals as goal

pub finish-requires : goal.finish-requires
finish-requires g c =
    let r = c.requires in
    let is = r.5 in
    (r.0, g.L.Turns.begun is.now, r.2, r.3, is.these, is.there, hears_all_on ((g.met.L.Turns.same_ranks is.now).0 ∙ is.same_ranks) r.6)

pub most-most-requires : goal.most-most-requires
most-most-requires g c =
    let r = c.requires in
    let is = r.5 in
    let went = c.in_ok-turn.ensures r.0 (g.L.Turns.begun is.now) r.2 r.3 is.these is.there (hears_all_on ((g.met.L.Turns.same_ranks is.now).0 ∙ is.same_ranks) r.6) in
    let over = went_over (λ p. g.A.Phase.stands p (g.L.Turns.begun is.now) r.2) (λ out. g.X.Part.holds out (g.A.Phase.after (g.L.Turns.begun is.now)) r.2) r.2 is.these c.in_ok-turn.field-0 c.in-Over.next c.in-Over.is went in
    (g.A.Phase.after (g.L.Turns.begun is.now), r.2, over.given)

pub again-requires : goal.again-requires
again-requires g c =
    let r = c.requires in
    let is = r.5 in
    let went = c.in_ok-turn.ensures r.0 (g.L.Turns.begun is.now) r.2 r.3 is.these is.there (hears_all_on ((g.met.L.Turns.same_ranks is.now).0 ∙ is.same_ranks) r.6) in
    let over = went_over (λ p. g.A.Phase.stands p (g.L.Turns.begun is.now) r.2) (λ out. g.X.Part.holds out (g.A.Phase.after (g.L.Turns.begun is.now)) r.2) r.2 is.these c.in_ok-turn.field-0 c.in-Over.next c.in-Over.is went in
    (g.A.Phase.after (g.L.Turns.begun is.now), r.2, over.given, c.most-most.ensures (g.A.Phase.after (g.L.Turns.begun is.now)) r.2 over.given)

pub returns-in-On : goal.returns-in-On
returns-in-On g c = λ run w rank here rest is hears.
    let went = c.in_ok-turn.ensures run (g.L.Turns.begun is.now) rank here is.these is.there (hears_all_on ((g.met.L.Turns.same_ranks is.now).0 ∙ is.same_ranks) hears) in
    let on = went_on (λ p. g.A.Phase.stands p (g.L.Turns.begun is.now) rank) (λ out. g.X.Part.holds out (g.A.Phase.after (g.L.Turns.begun is.now)) rank) rank is.these c.in_ok-turn.field-0 c.in-On.turn c.in-On.is went in
    within_on (λ w. g.A.Phase.fragments (g.L.Turns.begun w)) (λ w. g.A.Phase.after (g.L.Turns.begun w)) g.L.Turns.left (λ q. q.turn) (λ p w. g.A.Phase.stands p (g.L.Turns.begun w)) g.X.Part.ranks rank w is.now is.these rest _ is.rest_is is.same_last is.same_ranks on

pub returns-in_ok-went-in-Over : goal.returns-in_ok-went-in-Over
returns-in_ok-went-in-Over g c = λ run w rank here rest is hears.
    let went = c.in_ok-turn.ensures run (g.L.Turns.begun is.now) rank here is.these is.there (hears_all_on ((g.met.L.Turns.same_ranks is.now).0 ∙ is.same_ranks) hears) in
    let over = went_over (λ p. g.A.Phase.stands p (g.L.Turns.begun is.now) rank) (λ out. g.X.Part.holds out (g.A.Phase.after (g.L.Turns.begun is.now)) rank) rank is.these c.in_ok-turn.field-0 c.in-Over.next c.in-Over.is went in
    let next = c.in_ok-went-in-Over.ensures.goes (g.A.Phase.after (g.L.Turns.begun is.now)) rank over.given (c.most-most.ensures (g.A.Phase.after (g.L.Turns.begun is.now)) rank over.given) in
    within_over (λ w. g.A.Phase.fragments (g.L.Turns.begun w)) (λ w. g.A.Phase.after (g.L.Turns.begun w)) g.L.Turns.left (λ q. q.turn) (λ p w. g.A.Phase.stands p (g.L.Turns.begun w)) g.X.Part.ranks rank (λ z v. g.Z.Part.holds z (g.L.Turns.ended v)) w is.now is.these rest _ is.rest_is is.same_last (g.met.A.Phase.same_ranks (g.L.Turns.begun is.now) ∙ (g.met.L.Turns.same_ranks is.now).0 ∙ is.same_ranks) over.skips next

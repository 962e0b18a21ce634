use Rattle.std.proofs.Common.{◌≡◌, ◌∙◌, arith, refl}
use Rattle.samr_phase.proofs.Sequels.{went_on, went_over}
use Rattle.samr_phase.proofs.Turnings.{idle_over, turn_first, turn_next, turn_is, no_turn_is}
use Rattle.samr_phase.proofs.repeat.+again.Goals as goal

pub start-requires : goal.start-requires
start-requires g t c =
    let w = c.requires.0 in
    let rank = c.requires.1 in
    let turn = turn_is g.L.Turns.left g.L.Turns.idle g.L.Turns.begun g.L.Turns.rest g.Y.Part.holds w rank c.in_ok-out.field-0 c.in-On.begun c.in-On.is (c.in_ok-out.ensures.chosen w rank c.requires.2) in
    (g.L.Turns.begun w, rank, turn.1)

pub returns-in-Over-clause-goes : goal.returns-in-Over-clause-goes
returns-in-Over-clause-goes g t c = λ w rank holds few.
    let idle = no_turn_is g.L.Turns.left g.L.Turns.idle g.L.Turns.begun g.L.Turns.rest g.Y.Part.holds w rank c.in_ok-out.field-0 c.in-Over.out c.in-Over.is (c.in_ok-out.ensures.chosen w rank holds) in
    idle_over (λ w. g.A.Phase.fragments (g.L.Turns.begun w)) (λ w. g.A.Phase.after (g.L.Turns.begun w)) g.L.Turns.left g.L.Turns.rest g.L.Turns.idle g.met.L.Turns.fewer g.met.L.Turns.rests g.met.L.Turns.stays (λ z v. g.Z.Part.holds z (g.L.Turns.ended v)) g.met.L.Turns.ends c.in-Over.out w rank idle.0 idle.1

pub returns-in-On-2-clause-goes : goal.returns-in-On-2-clause-goes
returns-in-On-2-clause-goes g t c = λ w rank holds few.
    let turn = turn_is g.L.Turns.left g.L.Turns.idle g.L.Turns.begun g.L.Turns.rest g.Y.Part.holds w rank c.in_ok-out.field-0 c.in-On.begun c.in-On.is (c.in_ok-out.ensures.chosen w rank holds) in
    let v = g.L.Turns.begun w in
    let went = went_on (λ p. g.A.Phase.stands p v rank) (λ out. g.X.Part.holds out (g.A.Phase.after v) rank) rank (g.A.Phase.fragments v) c.in_ok-turn-in-On.field-0 c.in-On-2.turn c.in-On-2.is (c.in_ok-turn-in-On.ensures.goes v rank turn.1) in
    turn_first (λ w. g.A.Phase.fragments (g.L.Turns.begun w)) (λ w. g.A.Phase.after (g.L.Turns.begun w)) g.L.Turns.left (λ q. q.turn) (λ p w. g.A.Phase.stands p (g.L.Turns.begun w)) g.X.Part.ranks rank w _ (g.met.L.Turns.fewer w turn.0) went

pub returns-in_ok-went-in-Over-2-clause-goes : goal.returns-in_ok-went-in-Over-2-clause-goes
returns-in_ok-went-in-Over-2-clause-goes g t c = λ w rank holds few.
    let turn = turn_is g.L.Turns.left g.L.Turns.idle g.L.Turns.begun g.L.Turns.rest g.Y.Part.holds w rank c.in_ok-out.field-0 c.in-On.begun c.in-On.is (c.in_ok-out.ensures.chosen w rank holds) in
    let v = g.L.Turns.begun w in
    let fewer = g.met.L.Turns.fewer w turn.0 in
    let over = went_over (λ p. g.A.Phase.stands p v rank) (λ out. g.X.Part.holds out (g.A.Phase.after v) rank) rank (g.A.Phase.fragments v) c.in_ok-turn-in-On.field-0 c.in-Over-2.next c.in-Over-2.is (c.in_ok-turn-in-On.ensures.goes v rank turn.1) in
    let next = c.in_ok-went-in-Over-2.ensures.goes (g.A.Phase.after v) rank over.given (omega (arith, few, fewer)) in
    turn_next (λ w. g.A.Phase.fragments (g.L.Turns.begun w)) (λ w. g.A.Phase.after (g.L.Turns.begun w)) g.L.Turns.left (λ q. q.turn) (λ p w. g.A.Phase.stands p (g.L.Turns.begun w)) g.X.Part.ranks rank (λ z v. g.Z.Part.holds z (g.L.Turns.ended v)) w _ fewer (g.met.A.Phase.same_ranks v ∙ (g.met.L.Turns.same_ranks w).0) over.skips next

use Rattle.std.proofs.Common.{arith, sym, ap, subst}
use Rattle.samr_world.specs.World.{Shape, StandsIn}
use Rattle.samr_world.proofs.world.World.run_to_end.Goals as goal

pub invariant_of-self : goal.invariant_of-self
invariant_of-self g c =
    let before = c.self.invariant.room in
    record {
      stands = λ never. cc;
      empty = c.self.invariant.empty;
      room = omega (arith, before, c.run_to_end.ensures.ranks);
    }

pub invariant_of-self-2 : goal.invariant_of-self-2
invariant_of-self-2 g c =
    let before = c.self.invariant.room in
    let stood = c.self.invariant.stands c.if-self.false in
    record {
      stands = λ _. (stood.0, c.in_ok-run_to_end.ensures.keeps stood.0 stood.1);
      empty = c.self.invariant.empty;
      room = omega (arith, before, c.run_to_end.ensures.ranks);
    }

pub returns-clause-stands : goal.returns-clause-stands
returns-clause-stands g c =
    let stood = c.self.invariant.stands c.if-self.false in
    (stood.0, c.in_ok-run_to_end.ensures.keeps stood.0 stood.1)

pub returns-clause-keeps : goal.returns-clause-keeps
returns-clause-keeps g c = λ r stands.
    let Standing : Shape g.row.P.Denot g.row.P-Mail.Denot → Type 0 = λ w. StandsIn g.P.Program g.P.Mail.Mail r w in
    c.in_ok-run_to_end.ensures.keeps r (subst Standing (sym (ap (λ w. w.shape) c.self.view_is)) stands)

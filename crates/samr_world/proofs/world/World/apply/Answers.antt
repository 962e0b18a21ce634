use Rattle.std.proofs.Common.{arith}
use Rattle.samr_world.proofs.world.World.apply.Goals as goal

pub invariant_of-self : goal.invariant_of-self
invariant_of-self g c =
    let before = c.self.invariant.room in
    record {
      stands = λ never. cc;
      empty = c.self.invariant.empty;
      room = omega (arith, before, c.apply.ensures.ranks);
    }

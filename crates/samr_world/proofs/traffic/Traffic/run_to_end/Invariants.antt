use Rattle.std.proofs.Common.{◌≡◌, ◌+◌, ◌-◌, ◌*◌, ◌≤◌, length}
use Rattle.samr_world.specs.Plays.{Runs}
use Rattle.samr_world.specs.Traffic.{shape_of}
use Rattle.samr_world.specs.Weight.{weight}
use Rattle.samr_world.specs.World.{Stands, Keeps}
use Rattle.samr_world.proofs.traffic.Traffic.run_to_end.Given as goal

abbrev pub invariant-events : goal.invariant-events
invariant-events g l = record {
  ran : Runs g.P.Program g.P.Mail.Mail (shape_of l.initial.self) (l.repeats - l.left) (shape_of l.self);
  few : l.left ≤ l.repeats;
  keeps : Keeps g.P.Program g.P.Mail.Mail (shape_of l.initial.self) (shape_of l.self);
  ranks : length l.self.machines.items ≡ length l.initial.self.machines.items;
  stands : Stands g.P.Program g.P.Mail.Mail (shape_of l.self);
  none_lost : l.self.lost ≡ 0;
}

abbrev pub decreases-events : goal.decreases-events
decreases-events g l = weight g.P.Program g.P.Mail.Mail (shape_of l.self) + 2 * l.left

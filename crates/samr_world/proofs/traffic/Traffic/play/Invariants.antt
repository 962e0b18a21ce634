use Rattle.std.proofs.Common.{◌≤◌, take, ◌≡◌, length}
use Rattle.samr_world.specs.Plays.{Played}
use Rattle.samr_world.specs.Traffic.{shape_of}
use Rattle.samr_world.specs.World.{Stands, Keeps}
use Rattle.samr_world.proofs.traffic.Traffic.play.Given as goal

abbrev pub invariant-loop-event : goal.invariant-loop-event
invariant-loop-event g l = record {
  played : Played g.P.Program g.P.Mail.Mail (shape_of l.initial.self) (take l.event-index l.events) l.count (shape_of l.self);
  keeps : Keeps g.P.Program g.P.Mail.Mail (shape_of l.initial.self) (shape_of l.self);
  ranks : length l.self.machines.items ≡ length l.initial.self.machines.items;
  stands : Stands g.P.Program g.P.Mail.Mail (shape_of l.self);
  few : l.count ≤ l.event-index;
}

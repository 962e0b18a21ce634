use Rattle.std.proofs.Common.{◌≡◌, ◌+◌, ◌≤◌, ◌++◌, length, map, reverse, vec_len}
use Rattle.std.specs.Vec.{vec_capacity}
use Rattle.samr_world.proofs.world.World.into_programs.Given as goal

abbrev pub invariant-loop-machine : goal.invariant-loop-machine
invariant-loop-machine g l = record {
  programs : map (λ s. s.program) l.machines.items ++ reverse l.room.items ≡ map (λ s. s.program) l.fn.self.shape.machines;
  room : length l.room.items + length l.machines.items ≤ vec_capacity l.room;
}

abbrev pub decreases-loop-machine : goal.decreases-loop-machine
decreases-loop-machine g l = vec_len l.machines

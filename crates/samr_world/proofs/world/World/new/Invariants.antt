use Rattle.std.proofs.Common.{◌≡◌, List, ◌++◌, reverse, vec_len}
use Rattle.std.specs.List.{AllZip}
use Rattle.std.specs.Vec.{vec_capacity}
use Rattle.samr_world.specs.Traffic.{IsBegun}
use Rattle.samr_world.proofs.world.World.new.Given as goal

abbrev pub invariant-loop-program : goal.invariant-loop-program
invariant-loop-program g l = record {
  rest : List g.row.P.Denot;
  parts : l.programs.items ++ rest ≡ l.fn.programs.items;
  begun : AllZip (IsBegun g.P.Program g.P.Mail.Mail) rest (reverse l.machines.items);
  capacity : vec_capacity l.programs ≡ vec_capacity l.fn.programs;
}

abbrev pub decreases-loop-program : goal.decreases-loop-program
decreases-loop-program g l = vec_len l.programs

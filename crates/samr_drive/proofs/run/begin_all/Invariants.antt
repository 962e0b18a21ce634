use Rattle.std.specs.List.{AllZip}
use Rattle.samr_world.specs.Traffic.{IsBegun}
use Rattle.samr_drive.proofs.run.begin_all.Given as goal

abbrev pub invariant-programs : goal.invariant-programs
invariant-programs g l = AllZip (IsBegun g.P.Program g.P.Mail.Mail) l.yielded l.machines.items

use Rattle.std.proofs.Common.{◌≡◌, length}
use Rattle.samr_drive.proofs.run.lowered.Given as goal

abbrev pub invariant-flags : goal.invariant-flags
invariant-flags l = length l.flags.items ≡ l._rank

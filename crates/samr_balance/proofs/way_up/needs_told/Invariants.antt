use Rattle.std.proofs.Common.{◌≡◌, take}
use Rattle.std.specs.Prelude.{fold}
use Rattle.samr_balance.specs.WayUp.{with_need}
use Rattle.samr_balance.proofs.way_up.needs_told.Given as goal

abbrev pub invariant-loop-letter : goal.invariant-loop-letter
invariant-loop-letter l = l.all ≡ fold with_need l.fn.needs (take l.letter-index l.held)

use Rattle.std.proofs.Common.{◌≡◌, take}
use Rattle.samr_balance.specs.HomeRow.{weight}
use Rattle.samr_balance.proofs.cuttings.weight.Given as goal

abbrev pub invariant-loop-cutting : goal.invariant-loop-cutting
invariant-loop-cutting l = l.sum ≡ weight (take l.cutting-index l.list)

use Rattle.std.proofs.Common.{◌≡◌, take}
use Rattle.samr_rounds.specs.Rounds.{directed}
use Rattle.samr_rounds.proofs.roots.directed.Given as goal

abbrev pub invariant-loop-number : goal.invariant-loop-number
invariant-loop-number l = l.own.items ≡ directed l.ranks l.director (take l.number l.roots)

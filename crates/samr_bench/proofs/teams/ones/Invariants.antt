use Rattle.std.proofs.Common.{◌≡◌, length, sum}
use Rattle.samr_bench.proofs.teams.ones.Given as goal

abbrev pub invariant-each : goal.invariant-each
invariant-each l = (length l.values.items ≡ l._rank) × (sum l.values.items ≡ l._rank)

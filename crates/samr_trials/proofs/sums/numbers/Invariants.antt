use Rattle.std.proofs.Common.{◌≡◌, ◌*◌, ◌≤◌, length, sum}
use Rattle.samr_trials.proofs.sums.numbers.Given as goal

abbrev pub invariant-each : goal.invariant-each
invariant-each l = (length l.values.items ≡ l._rank) × (sum l.values.items ≤ 1000 * l._rank)

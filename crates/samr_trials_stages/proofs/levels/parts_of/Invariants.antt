use Rattle.std.proofs.Common.{◌≡◌, map}
use Rattle.std.specs.List.{range_with_len}
use Rattle.samr_level.specs.Pairs.{part}
use Rattle.samr_trials_stages.proofs.levels.parts_of.Given as goal

abbrev pub invariant-each : goal.invariant-each
invariant-each l = l.parts.items ≡ map (λ rank. part l.fn.level rank) (range_with_len 0 l.rank)

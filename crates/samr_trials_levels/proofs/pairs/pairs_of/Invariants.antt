use Rattle.std.proofs.Common.{◌≡◌, map}
use Rattle.std.specs.List.{range_with_len}
use Rattle.samr_level.specs.Pairs.{pair}
use Rattle.samr_trials_levels.proofs.pairs.pairs_of.Given as goal

abbrev pub invariant-each : goal.invariant-each
invariant-each l = l.pairs.items ≡ map (λ rank. pair l.fn.d l.fn.width l.fn.base_ratio l.fn.head_ratio l.fn.base l.fn.head rank) (range_with_len 0 l.rank)

use Rattle.std.proofs.Common.{◌≡◌, map}
use Rattle.std.specs.List.{range_with_len}
use Rattle.samr_level.specs.Levels.{own}
use Rattle.samr_trials_levels.specs.First.{first_fields}
use Rattle.samr_trials_levels.proofs.starting.all_patches.Given as goal

abbrev pub invariant-each : goal.invariant-each
invariant-each l = l.all.items ≡ map (λ rank. first_fields l.fn.bound l.fn.start l.fn.widths (own rank l.fn.level)) (range_with_len 0 l.rank)

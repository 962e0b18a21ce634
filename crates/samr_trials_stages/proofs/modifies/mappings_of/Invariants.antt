use Rattle.std.proofs.Common.{◌≡◌, map}
use Rattle.std.specs.List.{range_with_len}
use Rattle.samr_modify.specs.Entries.{moves_of}
use Rattle.samr_trials_stages.proofs.modifies.mappings_of.Given as goal

abbrev pub invariant-each : goal.invariant-each
invariant-each l = l.mappings.items ≡ map (λ rank. record { entries = moves_of rank l.moves }) (range_with_len 0 l.rank)

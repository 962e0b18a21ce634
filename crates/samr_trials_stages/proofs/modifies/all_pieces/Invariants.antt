use Rattle.std.proofs.Common.{◌≡◌, map}
use Rattle.std.specs.List.{range_with_len}
use Rattle.samr_modify.specs.Pieces.{pieces_of}
use Rattle.samr_trials_stages.proofs.modifies.all_pieces.Given as goal

abbrev pub invariant-each : goal.invariant-each
invariant-each l = map (λ own. own.items) l.all.items ≡ map (λ rank. pieces_of rank l.moves) (range_with_len 0 l.rank)

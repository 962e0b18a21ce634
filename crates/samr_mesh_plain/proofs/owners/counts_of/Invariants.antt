use Rattle.std.proofs.Common.{◌≡◌, map}
use Rattle.std.specs.List.{range_with_len}
use Rattle.samr_rounds.specs.Owners.{own_tags}
use Rattle.samr_sign.specs.Counts.{tally}
use Rattle.samr_sign.specs.Fields.{tagged}
use Rattle.samr_mesh_plain.proofs.owners.counts_of.Given as goal

abbrev pub invariant-loop-rank : goal.invariant-loop-rank
invariant-loop-rank l = l.counts.items ≡ map (λ r. record { rank = r; tags = tally (own_tags (tagged l.fn.tags) l.fn.level r) l.fn.b }) (range_with_len 0 l.rank)

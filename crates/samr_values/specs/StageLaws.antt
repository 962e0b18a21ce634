-- Letters of the stages go between two different ranks.
use Rattle.std.specs.Prelude.{◌≢◌, ℕ, ◌<◌, is_some, IsTrue}
use Rattle.samr_peers.specs.PeerLaws.{peer_between}
use Rattle.samr_values.specs.Values.{Renewing}
use Rattle.samr_values.specs.ValuesRow.{sends, parcels, values_row}

pub values_between : (w : Renewing) (from to : ℕ) → IsTrue (is_some (values_row w from to)) → (from < w.ranks) × (to < w.ranks) × (from ≢ to)
unfolding values_row
values_between w from to h = peer_between w.ranks (sends w) (parcels w) from to h

-- Letters of the stage go between two different ranks.
use Rattle.std.specs.Prelude.{◌≢◌, ℕ, ◌<◌, is_some, IsTrue}
use Rattle.samr_peers.specs.PeerLaws.{peer_between}
use Rattle.samr_values.specs.Coarsen.{Coarsening, downs}
use Rattle.samr_values.specs.CoarsenRow.{coarse_parcels, coarsen_row}

pub coarsen_between : (w : Coarsening) (from to : ℕ) → IsTrue (is_some (coarsen_row w from to)) → (from < w.ranks) × (to < w.ranks) × (from ≢ to)
unfolding coarsen_row
coarsen_between w from to h = peer_between w.ranks (downs w) (coarse_parcels w) from to h

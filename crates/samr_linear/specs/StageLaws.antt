-- Letters of a linear fill go between two different ranks.
use Rattle.std.specs.Prelude.{◌≢◌, ℕ, ◌<◌, is_some, IsTrue}
use Rattle.samr_peers.specs.PeerLaws.{peer_between}
use Rattle.samr_fill.specs.FillRow.{sends}
use Rattle.samr_linear.specs.LinearFill.{LinearFilling}
use Rattle.samr_linear.specs.LinearFillRow.{linear_parcels, linear_row}

pub linear_between : (w : LinearFilling) (from to : ℕ) → IsTrue (is_some (linear_row w from to))
    → (from < w.filling.schedule.ranks) × (to < w.filling.schedule.ranks) × (from ≢ to)
unfolding linear_row
linear_between w from to h = peer_between w.filling.schedule.ranks (sends w.filling) (linear_parcels w) from to h

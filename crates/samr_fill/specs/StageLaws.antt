-- Letters of a fill go between two different ranks.
use Rattle.std.specs.Prelude.{◌≢◌, ℕ, ◌<◌, is_some, IsTrue}
use Rattle.samr_peers.specs.PeerLaws.{peer_between}
use Rattle.samr_fill.specs.Fill.{Filling}
use Rattle.samr_fill.specs.FillRow.{sends, parcels, fill_row}

pub fill_between : (w : Filling) (from to : ℕ) → IsTrue (is_some (fill_row w from to)) → (from < w.schedule.ranks) × (to < w.schedule.ranks) × (from ≢ to)
unfolding fill_row
fill_between w from to h = peer_between w.schedule.ranks (sends w) (parcels w) from to h

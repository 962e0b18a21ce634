-- Letters of the stage go between two different ranks.
use Rattle.std.specs.Prelude.{◌≢◌, ℕ, ◌<◌, is_some, IsTrue}
use Rattle.samr_peers.specs.PeerLaws.{peer_between}
use Rattle.samr_sched.specs.Ask.{Scheduling, downs}
use Rattle.samr_sched.specs.Plans.{requests}
use Rattle.samr_sched.specs.AskRow.{ask_row}

pub ask_between : (w : Scheduling) (from to : ℕ) → IsTrue (is_some (ask_row w from to)) → (from < w.ranks) × (to < w.ranks) × (from ≢ to)
unfolding ask_row
ask_between w from to h = peer_between w.ranks (downs w) (requests w) from to h

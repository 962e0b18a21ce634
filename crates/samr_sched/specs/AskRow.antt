-- The letters of the stage `Ask`: what ranks ask of each other.
use Rattle.std.specs.Prelude.{ℕ, Option, List}
use Rattle.samr_peers.specs.Peers.{peer_row}
use Rattle.samr_sched.specs.declared.plan.Request.{Request}
use Rattle.samr_sched.specs.Ask.{Scheduling, downs}
use Rattle.samr_sched.specs.Plans.{requests}

-- a rank asks each other owner of a head of its edges to the level below, also for nothing
unfoldable pub ask_row : Scheduling → ℕ → ℕ → Option (List Request)
ask_row w = peer_row w.ranks (downs w) (requests w)

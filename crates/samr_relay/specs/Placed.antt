-- Where one rank of a relay is: before which round, and what it was told so far.
use Rattle.std.specs.Prelude.{◌≡◌, ℕ, ◌<◌, ◌≤◌}
use Rattle.samr_relay.specs.declared.run.RelayRun.{RelayRun}
use Rattle.samr_relay.specs.Relay.{IsRelay, told_before}

pub record IsPlaced (run : RelayRun) (rank round total : ℕ) : Type 0 where
  pub relay : IsRelay run
  pub is_rank : rank < run.ranks
  pub within : round ≤ run.rounds
  pub told : total ≡ told_before run rank round

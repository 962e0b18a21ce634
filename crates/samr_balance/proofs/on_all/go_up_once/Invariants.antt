use Rattle.std.proofs.Common.{◌≡◌, ℕ, length, Some, slice_get}
use Rattle.std.specs.Prelude.{unsigned_abs}
use Rattle.samr_balance.specs.declared.way_up.Up.{Up}
use Rattle.samr_balance.specs.Rounds.{going_up, IsPart}
use Rattle.samr_balance.specs.OnAll.{round_at}
use Rattle.samr_balance.proofs.on_all.go_up_once.Given as goal

abbrev pub invariant-each : goal.invariant-each
invariant-each l =
    (length l.stages.items ≡ l.rank) × ((k : ℕ) (s : Up) → slice_get l.stages.items k ≡ Some s
    → IsPart s.rank s.ranks s.round s.hand.items s.needs s.quota s.smallest (going_up (round_at l.plan.ranks (unsigned_abs l.plan.smallest) l.plan.boxes l.fn.round) k) (round_at l.plan.ranks (unsigned_abs l.plan.smallest) l.plan.boxes l.fn.round) k)

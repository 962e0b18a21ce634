use Rattle.std.proofs.Common.{◌≡◌, ℕ, length, Some, slice_get}
use Rattle.std.specs.Prelude.{unsigned_abs}
use Rattle.samr_balance.specs.declared.home.Home.{Home}
use Rattle.samr_balance.specs.Home.{HasPieces}
use Rattle.samr_balance.specs.OnAll.{homes_of}
use Rattle.samr_balance.proofs.on_all.go_home.Given as goal

abbrev pub invariant-each : goal.invariant-each
invariant-each l =
    (length l.stages.items ≡ l.rank) × ((k : ℕ) (s : Home) → slice_get l.stages.items k ≡ Some s
    → HasPieces s.rank s.ranks s.pieces.items s.olds.items (homes_of l.plan.ranks (unsigned_abs l.plan.smallest) l.plan.boxes) k)

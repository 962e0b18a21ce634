use Rattle.std.proofs.Common.{◌≡◌, ℕ, length, Some, slice_get}
use Rattle.samr_bridge.specs.declared.bridge.Bridge.{Bridge}
use Rattle.samr_bridge.specs.Bridge.{Bridging}
use Rattle.samr_bridge.specs.BridgeParts.{HaveAllPairs, HasFound}
use Rattle.samr_bridge.proofs.bridge_on_all.bridge_all.Given as goal

abbrev pub invariant-each : goal.invariant-each
invariant-each l =
    (length l.stages.items ≡ l.rank)
    × ((w : Bridging) → HaveAllPairs l.fn.d l.east l.west l.fn.width w → (k : ℕ) (s : Bridge) → slice_get l.stages.items k ≡ Some s
    → HasFound s.rank s.width s.east_ratio s.west_ratio s.found.items s.addressees.items s.senders.items w k)

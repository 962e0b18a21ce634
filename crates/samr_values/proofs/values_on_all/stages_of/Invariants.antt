use Rattle.std.proofs.Common.{◌≡◌, ◌<◌, ℕ, length, Some, slice_get}
use Rattle.samr_values.specs.Values.{Renewing}
use Rattle.samr_values.specs.ValuesParts.{HasPacked}
use Rattle.samr_values.specs.ValuesOnAll.{HaveAllOld}
use Rattle.samr_values.proofs.values_on_all.stages_of.Given as goal

abbrev pub invariant-each : goal.invariant-each
invariant-each g l =
    (length l.stages.items ≡ l.rank)
    × ((w : Renewing) → HaveAllOld l.fn.news l.fn.same l.fn.coarser l.fn.step l.fn.patches l.fn.coarse_patches l.fn.strategies w → (k : ℕ) (s : _)
    → slice_get l.stages.items k ≡ Some s
    → HasPacked s.rank s.step s.boxes.items s.letters.items s.own.items s.senders.items s.strategies.now w k × (length s.strategies.now < 256))

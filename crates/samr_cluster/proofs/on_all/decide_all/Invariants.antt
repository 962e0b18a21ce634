use Rattle.std.proofs.Common.{◌≡◌, ℕ, length, Some, slice_get}
use Rattle.samr_cluster.specs.declared.decide.Decide.{Decide}
use Rattle.samr_cluster.specs.Rounds.{Round}
use Rattle.samr_cluster.specs.DecideParts.{HaveAllReported, HasJudged}
use Rattle.samr_cluster.proofs.on_all.decide_all.Given as goal

abbrev pub invariant-each : goal.invariant-each
invariant-each l =
    (length l.stages.items ≡ length l.yielded)
    × ((x : Round) → HaveAllReported l.fn.reported.items l.fn.rule x → (k : ℕ) (s : Decide) → slice_get l.stages.items k ≡ Some s
    → HasJudged s.rank s.judged.items s.addressees.items s.senders.items x k)

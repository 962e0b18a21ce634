use Rattle.std.proofs.Common.{◌≡◌, ℕ, length, Some, slice_get}
use Rattle.samr_sched.specs.declared.ask.Ask.{Ask}
use Rattle.samr_sched.specs.Ask.{Scheduling}
use Rattle.samr_sched.specs.AskParts.{HasPlans}
use Rattle.samr_sched.specs.AskOnAll.{HaveAllLevels}
use Rattle.samr_sched.proofs.ask_on_all.stages_of.Given as goal

abbrev pub invariant-each : goal.invariant-each
invariant-each l =
    (length l.stages.items ≡ l.rank)
    × ((w : Scheduling) → HaveAllLevels l.fn.region l.fn.parts l.fn.selves l.fn.coarser l.fn.ghosts l.fn.fixed w → (k : ℕ) (s : Ask)
    → slice_get l.stages.items k ≡ Some s → HasPlans s.rank s.frame s.below s.step s.boxes.items s.near.items s.under.items s.senders.items s.fixed.items w k)

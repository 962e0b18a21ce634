-- The state of a machine that works.
use Rattle.std.specs.Prelude.{false}
use Rattle.samr_stage.specs.declared.work.Work.{Work}
use Rattle.samr_stage.specs.Machine.{State}

-- the state of a machine that has not failed
abbrev pub state_of : {P M R : Type 0} → Work P M R → State P M
state_of w = record { program = w.program; outbox = w.outbox.items; kept = w.kept.items; over = w.over; failed = false }

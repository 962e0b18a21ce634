-- What a rank has yet to give out and to get in a run.
use Rattle.std.specs.Prelude.{ℕ, ◌+◌, List, ◌++◌, map, drop}
use Rattle.std.specs.List.{flat_map}
use Rattle.samr_stage.specs.declared.label.Name.{Name}
use Rattle.samr_stage.specs.declared.mail.Mail as letter
use Rattle.samr_stage.specs.declared.program.Program as actor
use Rattle.samr_stage.specs.Course.{Course, sent, awaited}
use Rattle.samr_stage.specs.Machine.{State, course_of}

module _ {B : Type 0} (c : Course B) where
  -- the names of all letters that a rank gives out, by label, then addressee
  abbrev pub all_sent : ℕ → List Name
  all_sent rank = flat_map (λ at. sent c at rank) (c.labels rank)

  -- the names of all letters that a rank awaits, by label, then sender
  abbrev pub all_awaited : ℕ → List Name
  all_awaited rank = flat_map (λ at. awaited c at rank) (c.labels rank)

  -- those of the labels from a place on
  abbrev pub sent_from : ℕ → ℕ → List Name
  sent_from rank place = flat_map (λ at. sent c at rank) (drop place (c.labels rank))

  abbrev pub awaited_from : ℕ → ℕ → List Name
  awaited_from rank place = flat_map (λ at. awaited c at rank) (drop place (c.labels rank))

module _ {P M R : Type 0} (p : actor.Ghosts P M R) (m : letter.Ghosts M R) where
  -- the names that a machine has yet to give out: those in its outbox, and those of its later labels
  abbrev pub ahead : State P M → List Name
  ahead s = map m.name s.outbox ++ sent_from (course_of p m s.program) (p.rank_of s.program) (p.place s.program + 1)

  -- the names that a machine awaits at its label and at later ones
  abbrev pub awaiting : State P M → List Name
  awaiting s = awaited_from (course_of p m s.program) (p.rank_of s.program) (p.place s.program)

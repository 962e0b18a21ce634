-- How far a world is from its end: a number that each event but a repeat lowers by one.
use Rattle.std.specs.Prelude.{ℕ, ◌+◌, ◌*◌, List, length, drop, sum_by}
use Rattle.std.specs.List.{range_with_len}
use Rattle.samr_stage.specs.declared.label.Label.{Label}
use Rattle.samr_stage.specs.declared.mail.Mail as letter
use Rattle.samr_stage.specs.declared.program.Program as actor
use Rattle.samr_stage.specs.Course.{Course, sent}
use Rattle.samr_stage.specs.Machine.{State, course_of}
use Rattle.samr_world.specs.World.{Shape}

module _ {B : Type 0} (c : Course B) where
  -- how many letters a rank has for others at these labels
  abbrev pub letters_at : ℕ → List Label → ℕ
  letters_at rank labels = sum_by (λ at. length (sent c at rank)) labels

  -- how many labels are visited, over all ranks
  abbrev pub visits : ℕ
  visits = sum_by (λ rank. length (c.labels rank)) (range_with_len 0 c.ranks)

  -- how many names have a letter: over all ranks, those that the rank sends at the labels that it visits
  abbrev pub letters : ℕ
  letters = sum_by (λ rank. letters_at rank (c.labels rank)) (range_with_len 0 c.ranks)

module _ {P M R : Type 0} (p : actor.Ghosts P M R) (m : letter.Ghosts M R) where
  -- the labels that a rank has not left, with the one at which it is
  abbrev pub labels_left : State P M → List Label
  labels_left s = drop (p.place s.program) ((course_of p m s.program).labels (p.rank_of s.program))

  -- a label left to visit counts one, and a letter left to give out two
  abbrev pub weight_of : State P M → ℕ
  weight_of s =
      length (labels_left s) + 2 * (length s.outbox + letters_at (course_of p m s.program) (p.rank_of s.program) (drop 1 (labels_left s)))

  -- and a letter in flight one
  abbrev pub weight : Shape P M → ℕ
  weight w = sum_by weight_of w.machines + length w.flight

-- Where a run of thirty stages is: before a stage, with the number that all of them tell.
use Rattle.std.specs.Prelude.{◌≡◌, ℕ, ◌+◌, ◌<◌}
use Rattle.samr_stage.specs.declared.label.Label.{Label}

pub record Place : Type 0 where
  pub number : ℕ
  pub phase : ℕ

abbrev pub label_of : Place → Label
label_of w = record { step = 0; pass = 0; phase = w.phase; round = 0 }

abbrev pub next : Place → Place
next w = record { number = w.number; phase = w.phase + 1 }

-- what a rank has before a stage
pub record IsAt (seat number phase : ℕ) (w : Place) (rank : ℕ) : Type 0 where
  pub same_rank : seat ≡ rank
  pub same_number : number ≡ w.number
  pub same_phase : phase ≡ w.phase

-- What the journals of a fabric say after a run.
use Rattle.std.specs.Prelude.{◌≡◌, ℕ, ◌<◌, List}
use Rattle.samr_link.specs.Names.{addressed, sent_by}
use Rattle.samr_stage.specs.declared.label.Name.{Name}
use Rattle.samr_stage.specs.Course.{Course}
use Rattle.samr_drive.specs.Ahead.{all_sent}

-- each rank posted to each rank just the letters that the course has for it, in order
abbrev pub PostedAll : {B : Type 0} → Course B → ℕ → (ℕ → ℕ → List Name) → Type 0
PostedAll c ranks posted = (from to : ℕ) → from < ranks → posted from to ≡ addressed to (all_sent c from)

-- each rank took of each rank just what that rank posted to it, in order
abbrev pub TookAll : ℕ → (ℕ → ℕ → List Name) → (ℕ → List Name) → Type 0
TookAll ranks posted taken = (from to : ℕ) → from < ranks → to < ranks → sent_by from (taken to) ≡ posted from to

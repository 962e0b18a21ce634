-- A stage at one label of a run: the letters of the run there are those of the stage's row.
use Rattle.std.specs.Prelude.{◌≡◌, ℕ, Option, Some, is_some}
use Rattle.samr_stage.specs.declared.label.Label.{Label}
use Rattle.samr_stage.specs.declared.label.Name.{Name}
use Rattle.samr_stage.specs.Course.{Course, IsCourse, name_of}

-- the letters of a course at a label are those of a row: as many ranks, the same names, and each with its body
pub record CarriesRow {B C : Type 0} (course : Course C) (has_body : Name → B → Type 0) (at : Label) (ranks : ℕ) (row : ℕ → ℕ → Option B) : Type 0 where
  pub on_course : IsCourse course
  pub same_ranks : ranks ≡ course.ranks
  pub there : (from to : ℕ) → is_some (course.letter (name_of at from to)) ≡ is_some (row from to)
  pub body : (from to : ℕ) (b : B) → row from to ≡ Some b → has_body (name_of at from to) b

-- What a rank may ask of its share of a problem, and what it is told.
use Rattle.std.specs.Prelude.{◌≡◌, ℕ, zero, suc, Bool, List, slice_get, Some}
use Rattle.samr_box.specs.declared.vector.IVec.{IVec}
use Rattle.samr_box.specs.Corners.{Holds}
use Rattle.samr_box.specs.Lists.{Member}
use Rattle.samr_level.specs.Refs.{Owned}
use Rattle.samr_problem.specs.declared.field.Field.{Field}
use Rattle.samr_mesh.specs.Domains.{level0_of}
use Rattle.samr_mesh.specs.Meshes.{level_at, mesh}
use Rattle.samr_mesh.specs.Passes.{shape_at}
use Rattle.samr_hierarchy.specs.Passes.{first_value}
use Rattle.samr_msg.specs.Runs.{Setting}

-- the levels whose cells a rank may ask for at a step: those before its regrid; at step 0 those that are made
abbrev pub asked_mesh : Setting → ℕ → List (List Owned)
asked_mesh s zero = mesh s.problem s.ranks 0
asked_mesh s (suc t) = mesh s.problem s.ranks t

-- a cell of a box that the rank owns
abbrev pub IsOwnCell : List Owned → ℕ → IVec → Type 0
IsOwnCell level rank x = (b : Owned) × Member b level × (b.owner ≡ rank) × Holds b.bx x

-- a rank may be told of all its own cells, and what it is told is the run's
pub record IsServed (may_tell : ℕ → ℕ → IVec → Type 0) (is_tagged : ℕ → ℕ → IVec → Bool) (may_first : ℕ → IVec → Type 0) (first : ℕ → IVec → ℕ) (s : Setting) (rank : ℕ) : Type 0 where
  pub tags : (level step : ℕ) (x : IVec) → IsOwnCell (level_at (asked_mesh s step) level) rank x → may_tell level step x × (is_tagged level step x ≡ shape_at s.problem step level x)
  pub firsts : (f : ℕ) (r : Field) (x : IVec) → slice_get s.problem.fields f ≡ Some r → IsOwnCell (level0_of s.problem s.ranks) rank x → may_first f x × (first f x ≡ first_value r x)

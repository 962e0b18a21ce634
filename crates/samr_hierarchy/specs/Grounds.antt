-- What levels of an accepted problem rest on.
use Rattle.std.specs.Prelude.{◌≡◌, ◌⊎◌, ℕ, suc, ◌<◌, ◌^◌, pos, length}
use Rattle.samr_box.specs.declared.vector.IVec.{IVec}
use Rattle.samr_box.specs.Vector.{alike, times, AtMost, Within, IsRatio}
use Rattle.samr_box.specs.Corners.{Corners, IsBox, Holds, grown, cells_of}
use Rattle.samr_box.specs.Space.{IsSpace, whole}
use Rattle.samr_box.specs.Lists.{Member}
use Rattle.samr_level.specs.Regions.{IsArea}
use Rattle.samr_nest.specs.Nested.{IsPlain}
use Rattle.samr_ops.specs.Rules.{IsRules}
use Rattle.samr_values.specs.Updating.{faces}
use Rattle.samr_problem.specs.declared.field.Field.{Field}
use Rattle.samr_problem.specs.Fields.{Fields}
use Rattle.samr_problem.specs.Problems.{IsProblem}
use Rattle.samr_mesh.specs.Domains.{area_of, step_of, ratio_to, area_at}
use Rattle.samr_hierarchy.specs.Scales.{rules_of, number_of}

-- the rules of a field are in range, the cells at the faces of a cell are about it where the update looks at them, and its ghost cells lie within the width and within the nest of each level
pub record IsFieldOf (p : Fields) (f : Field) : Type 0 where
  pub rules : IsRules (rules_of f)
  pub narrow : AtMost f.ghosts (alike (pos 8))
  pub wide : AtMost f.ghosts p.width
  pub nested : (l : ℕ) → suc l < p.levels → AtMost f.ghosts (times p.nest (step_of p l))
  pub about : (f.face ≡ 0) ⊎ ((x y : IVec) → Member y (faces p.dim x) → Within f.ghosts x y)
  pub fixed : 0 < length p.parts → number_of f.boundary.i < f.modulus

-- a box of the frame of a level has room for so many ghost cells
abbrev pub HasRoom : Fields → Type 0
HasRoom p =
    (l : ℕ) (b : Corners) (g : IVec) → l < p.levels → AtMost (alike (pos 0)) g → AtMost g (alike (pos 8)) → AtMost b.lo b.hi
    → Holds (whole (area_at p l).frame) b.lo → Holds (whole (area_at p l).frame) b.hi → IsBox (grown b g) × (cells_of (grown b g) < 2 ^ 62)

pub record IsGround (p : Fields) : Type 0 where
  pub area : IsArea (area_of p)
  pub plain : IsPlain (area_of p)
  pub space : (l : ℕ) → l < p.levels → IsSpace (area_at p l).frame
  pub ratio : (l : ℕ) → l < p.levels → IsRatio (ratio_to p l)
  pub step : (l : ℕ) → IsRatio (step_of p l)
  pub four : (l : ℕ) → AtMost (step_of p l) (alike (pos 4))
  pub nest : AtMost (alike (pos 0)) p.nest
  pub width : AtMost (alike (pos 0)) p.width
  pub wide : AtMost p.width p.domain
  pub room : HasRoom p
  pub some : 0 < length p.fields
  pub few : length p.fields < 2 ^ 8
  pub fields : (f : Field) → Member f p.fields → IsFieldOf p f

abbrev pub ProblemsHaveGround : Type 0
ProblemsHaveGround = (p : Fields) → IsProblem p → IsGround p

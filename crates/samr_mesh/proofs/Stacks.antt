-- A mesh as its levels one after another, each over the one before it: the form in which inductions go.
use Rattle.std.proofs.Common.{◌≡◌, ℕ, suc, ◌≤◌, List, [], ◌∷◌, length}
use Rattle.std.specs.Prelude.{◌↔◌}
use Rattle.samr_box.specs.declared.vector.IVec.{IVec}
use Rattle.samr_level.specs.Refs.{Owned}
use Rattle.samr_level.specs.Levels.{IsCellIn}
use Rattle.samr_problem.specs.Fields.{Fields}
use Rattle.samr_mesh.specs.Domains.{level0_of}
use Rattle.samr_mesh.specs.Soundness.{IsOver}

-- each of some levels is one over that before it, the first over the one with this number
abbrev pub AreOver : Fields → ℕ → ℕ → List Owned → List (List Owned) → Type 0
AreOver p ranks l below [] = Unit {0}
AreOver p ranks l below (level ∷ finer) = IsOver p ranks l below level × AreOver p ranks (suc l) level finer

-- level 0 is that of the problem, and the others are levels each over the one below it; there are no more of them than there may be
abbrev pub IsStacked : Fields → ℕ → List (List Owned) → Type 0
IsStacked p ranks [] = ⊥
IsStacked p ranks (base ∷ finer) = (base ≡ level0_of p ranks) × AreOver p ranks 0 base finer × (suc (length finer) ≤ p.levels)

-- two levels, and two lists of levels one after another, with the same cells
abbrev pub SameCells : List Owned → List Owned → Type 0
SameCells xs ys = (x : IVec) → IsCellIn xs x ↔ IsCellIn ys x

abbrev pub AllSameCells : List (List Owned) → List (List Owned) → Type 0
AllSameCells [] [] = Unit {0}
AllSameCells [] (y ∷ ys) = ⊥
AllSameCells (x ∷ xs) [] = ⊥
AllSameCells (x ∷ xs) (y ∷ ys) = SameCells x y × AllSameCells xs ys

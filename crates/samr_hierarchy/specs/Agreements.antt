-- Values do not depend on how cells are cut into boxes, nor on who owns these.
use Rattle.std.specs.Prelude.{◌≡◌, ℕ, true, false, List}
use Rattle.samr_box.specs.declared.vector.IVec.{IVec}
use Rattle.samr_level.specs.Refs.{Owned}
use Rattle.samr_level.specs.Levels.{IsCellIn}
use Rattle.samr_problem.specs.Fields.{Fields}
use Rattle.samr_mesh.specs.Meshes.{level_at, is_due}
use Rattle.samr_mesh.specs.Soundness.{IsMesh, IsRemade}
use Rattle.samr_mesh.specs.Independence.{HaveSameCells}
use Rattle.samr_hierarchy.specs.Grounds.{IsGround}
use Rattle.samr_hierarchy.specs.Hierarchies.{Hierarchy}
use Rattle.samr_hierarchy.specs.Passes.{stepped, after}
use Rattle.samr_hierarchy.specs.Meshes.{AreMeshes}
use Rattle.samr_hierarchy.specs.Laws.{Fits}

-- as many levels with the same cells, and the same values in them
pub record Agree (h other : Hierarchy) : Type 0 where
  pub levels : HaveSameCells h.levels other.levels
  pub values : (l f : ℕ) (x : IVec) → IsCellIn (level_at h.levels l) x → h.values l f x ≡ other.values l f x

-- what a step rests on: levels of before and after it
pub record CanStep (p : Fields) (ranks t : ℕ) (h : Hierarchy) (news : List (List Owned)) : Type 0 where
  pub before : IsMesh p ranks h.levels
  pub next : IsMesh p ranks news
  pub remade : is_due p t ≡ true → IsRemade p h.levels news
  pub kept : is_due p t ≡ false → news ≡ h.levels
  pub fits : Fits p h

abbrev pub StepsAgree : Type 0
StepsAgree = (p : Fields) (ranks others t : ℕ) (h g : Hierarchy) (news others_news : List (List Owned)) → IsGround p → CanStep p ranks t h news → CanStep p others t g others_news
    → HaveSameCells news others_news → Agree h g → Agree (stepped p ranks h news t) (stepped p others g others_news t)

-- on any two numbers of ranks whose meshes have the same cells
abbrev pub HierarchiesAgree : Type 0
HierarchiesAgree = (p : Fields) (ranks others t : ℕ) (mesh other : ℕ → List (List Owned)) → IsGround p → AreMeshes p ranks mesh → AreMeshes p others other
    → ((t : ℕ) → HaveSameCells (mesh t) (other t)) → Agree (after p ranks mesh t) (after p others other t)

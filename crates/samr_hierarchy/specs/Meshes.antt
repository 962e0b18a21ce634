-- What the values rest on: a mesh for each step, where a regrid is due a new one that lies over the one before.
use Rattle.std.specs.Prelude.{◌≡◌, ℕ, suc, true, false, List}
use Rattle.samr_level.specs.Refs.{Owned}
use Rattle.samr_problem.specs.Fields.{Fields}
use Rattle.samr_mesh.specs.Meshes.{is_due}
use Rattle.samr_mesh.specs.Soundness.{IsMesh, IsRemade}

-- the meshes of all steps
pub record AreMeshes (p : Fields) (ranks : ℕ) (mesh : ℕ → List (List Owned)) : Type 0 where
  pub each : (t : ℕ) → IsMesh p ranks (mesh t)
  pub remade : (t : ℕ) → is_due p (suc t) ≡ true → IsRemade p (mesh t) (mesh (suc t))
  pub kept : (t : ℕ) → is_due p (suc t) ≡ false → mesh (suc t) ≡ mesh t

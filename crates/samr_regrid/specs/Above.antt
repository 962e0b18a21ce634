-- The new level two above the level of a pass.
use Rattle.std.specs.Prelude.{ℕ, zero, suc, ◌+◌, List, []}
use Rattle.samr_level.specs.Refs.{Owned}
use Rattle.samr_mesh.specs.Meshes.{level_at}
use Rattle.samr_msg.specs.Places.{AtPass, mesh_of}

-- in a regrid it is made before the pass, and stands in the mesh of the step; at step 0 there is none yet
abbrev pub two_above : AtPass → List Owned
two_above w = above w.at.step
  where
    above : ℕ → List Owned
    above zero = []
    above (suc t) = level_at (mesh_of w.at) (w.pass.number + 2)

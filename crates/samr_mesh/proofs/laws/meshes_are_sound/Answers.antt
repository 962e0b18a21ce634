-- Meshes stay meshes.
use Rattle.samr_mesh.proofs.MeshForms.{any_level, meshes_stay, fresh_mesh, no_holes}
use Rattle.samr_mesh.proofs.laws.meshes_are_sound.Goals as goal

pub returns-clause-levels : goal.returns-clause-levels
returns-clause-levels c = any_level

pub returns-clause-later : goal.returns-clause-later
returns-clause-later c = meshes_stay

pub returns-clause-fresh : goal.returns-clause-fresh
returns-clause-fresh c = fresh_mesh

pub returns-clause-no_holes : goal.returns-clause-no_holes
returns-clause-no_holes c = no_holes

-- A regrid is its passes.
use Rattle.samr_mesh.proofs.MeshForms.{regrids_are_passes, passes_run, passes_make_mesh}
use Rattle.samr_mesh.proofs.PassListing.{first_passes_are, cells_tell, goes_on}
use Rattle.samr_mesh.proofs.laws.regrids_are_passes.Goals as goal

pub returns-clause-later : goal.returns-clause-later
returns-clause-later c = regrids_are_passes

pub returns-clause-first : goal.returns-clause-first
returns-clause-first c = λ p ranks is some. first_passes_are p ranks is some

pub returns-clause-steps : goal.returns-clause-steps
returns-clause-steps c = passes_run

pub returns-clause-made : goal.returns-clause-made
returns-clause-made c = passes_make_mesh

pub returns-clause-cells : goal.returns-clause-cells
returns-clause-cells c = λ p w run. cells_tell p w run

pub returns-clause-runs : goal.returns-clause-runs
returns-clause-runs c = λ p ranks start n. goes_on p ranks start n

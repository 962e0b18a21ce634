-- The cells are the same on any number of ranks.
use Rattle.samr_mesh.proofs.MeshForms.{cells_stay, same_on_one}
use Rattle.samr_mesh.proofs.laws.ranks_do_not_matter.Goals as goal

pub returns-clause-later : goal.returns-clause-later
returns-clause-later c = cells_stay

pub returns-clause-fresh : goal.returns-clause-fresh
returns-clause-fresh c = same_on_one

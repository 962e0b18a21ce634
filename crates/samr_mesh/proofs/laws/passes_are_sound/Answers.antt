-- What a pass makes.
use Rattle.samr_mesh.proofs.Passing.{passed}
use Rattle.samr_mesh.proofs.Tagged.{tags_can, covers_can}
use Rattle.samr_mesh.proofs.Meshing.{tags_refined}
use Rattle.samr_mesh.proofs.laws.passes_are_sound.Goals as goal

pub returns-clause-passes : goal.returns-clause-passes
returns-clause-passes c = λ p w run. passed p w run

pub returns-clause-tags : goal.returns-clause-tags
returns-clause-tags c = λ p w x run t deep. tags_refined p w x run t deep

pub returns-clause-tagging : goal.returns-clause-tagging
returns-clause-tagging c = λ p w run. tags_can p w run

pub returns-clause-covering : goal.returns-clause-covering
returns-clause-covering c = λ p w run above. covers_can p w run above

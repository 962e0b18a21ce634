use Rattle.samr_load.proofs.Wholes.{all_cells, level_kept}
use Rattle.samr_load.proofs.laws.cells_are_kept.Goals as goal

pub returns-clause-pieces : goal.returns-clause-pieces
returns-clause-pieces c = λ quota ranks smallest boxes some owned.
    all_cells quota ranks smallest boxes some (λ o h. (owned o h).0) (λ o h. (owned o h).1)

pub returns-clause-level : goal.returns-clause-level
returns-clause-level c = λ ranks smallest boxes x some owned. level_kept ranks smallest boxes x some owned

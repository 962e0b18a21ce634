use Rattle.std.proofs.Common.{◌∙◌, ap}
use Rattle.samr_problem.specs.Lengths.{lengths_of, has_cell}
use Rattle.samr_problem.proofs.Capping.{has_cell_capped}
use Rattle.samr_problem.proofs.lengths.is_level_cell.Goals as goal

pub returns : goal.returns
returns c =
    c.has_cell.ensures.value
    ∙ ap (λ l. has_cell l c.args.cell) c.lengths_of.ensures
    ∙ has_cell_capped (lengths_of c.args.domain c.args.ratios.now) c.args.cell c.has_cell.ensures.small

use Rattle.std.proofs.Common.{◌∙◌, ap}
use Rattle.samr_problem.specs.Lengths.{lengths_of, fits_in}
use Rattle.samr_problem.proofs.Capping.{fits_in_capped}
use Rattle.samr_problem.proofs.lengths.fits_in_level.Goals as goal

pub returns : goal.returns
returns c =
    c.holds_size.ensures.value
    ∙ ap (λ l. fits_in l c.args.size) c.lengths_of.ensures
    ∙ fits_in_capped (lengths_of c.args.domain c.args.ratios.now) c.args.size c.holds_size.ensures.small

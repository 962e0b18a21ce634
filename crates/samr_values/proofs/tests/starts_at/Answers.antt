use Rattle.std.proofs.Common.{◌∙◌, sym, ap}
use Rattle.samr_data.specs.Grids.{Grid}
use Rattle.samr_values.proofs.Written.{same_box_is}
use Rattle.samr_values.proofs.tests.starts_at.Goals as goal

pub returns : goal.returns
returns c = λ t.
    sym c.base_of.ensures
    ∙ same_box_is c.base_of.result c.patch.inside.bx (sym c.is_same.ensures ∙ t)
    ∙ ap (λ (p : Grid). p.bx) c.patch.view_is

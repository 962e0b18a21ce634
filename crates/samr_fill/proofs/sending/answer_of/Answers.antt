use Rattle.std.proofs.Common.{◌≡◌, ◌∙◌, sym, subst}
use Rattle.std.specs.Prelude.{true}
use Rattle.samr_box.specs.Corners.{holds_box}
use Rattle.samr_data.specs.Grids.{Grid}
use Rattle.samr_fill.proofs.Corners.{met_inside}
use Rattle.samr_fill.proofs.sending.answer_of.Goals as goal

pub parcel_of-requires : goal.parcel_of-requires
parcel_of-requires c =
    subst (λ (p : Grid). holds_box p.bx c.in-Some.region ≡ true) c.patch.view_is
    (met_inside c.patch.inside.bx _ c.in-Some.region (sym c.part_moved_back.ensures ∙ c.in-Some.is))

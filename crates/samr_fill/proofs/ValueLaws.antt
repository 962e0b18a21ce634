-- Laws of the values about a level.
use Rattle.std.proofs.Common.{◌≡◌, ℕ, sym, ap, ◌∙◌, subst}
use Rattle.samr_box.specs.declared.vector.IVec.{IVec}
use Rattle.samr_box.specs.Corners.{Holds}
use Rattle.samr_border.proofs.TurnLaws.{wrapped_stays}
use Rattle.samr_border.proofs.ImageCells.{image_home, image_wrapped}
use Rattle.samr_nest.proofs.StayLaws.{cell_of_frame}
use Rattle.samr_sched.specs.Ask.{domain_of, frame_of}
use Rattle.samr_fill.specs.Laws.{CopiesAgree, TheLevelKeepsItsValues}
use Rattle.samr_fill.proofs.Insides.{level_value}

pub copies_agree : CopiesAgree
copies_agree w f h s x is mh shift has_it =
    let d = frame_of w.schedule in
    let space = is.schedule.area.frame in
    let in_frame = λ (y : IVec) (q : Holds h.bx y). cell_of_frame (domain_of w.schedule) y is.schedule.area (is.schedule.level.inside h y mh q) in
    level_value w is f x (h, mh, image_wrapped d h.bx s x space in_frame shift has_it)
    ∙ ap (w.values f.0) (sym (image_home d h.bx s x space in_frame shift has_it))

pub the_level_keeps_its_values : TheLevelKeepsItsValues
the_level_keeps_its_values w f h x is mh q =
    let d = frame_of w.schedule in
    let stays = wrapped_stays d x is.schedule.area.frame (cell_of_frame (domain_of w.schedule) x is.schedule.area (is.schedule.level.inside h x mh q)) in
    level_value w is f x (h, mh, subst (λ (v : IVec). Holds h.bx v) (sym stays) q) ∙ ap (w.values f.0) stays

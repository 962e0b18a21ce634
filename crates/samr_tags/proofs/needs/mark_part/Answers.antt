use Rattle.std.proofs.Common.{◌∙◌, sym, ap}
use Rattle.std.specs.Prelude.{Bool, ◌||◌}
use Rattle.samr_box.specs.Corners.{Corners, met}
use Rattle.samr_sign.specs.Fields.{tagged}
use Rattle.samr_tags.proofs.Marks.{met_cells, met_inside, met_none}
use Rattle.samr_tags.proofs.needs.mark_part.Goals as goal

pub mark-requires : goal.mark-requires
mark-requires c =
    met_inside c.args.field.now.bx c.args.b c.in-Some.part (ap (λ (v : Corners). met v c.args.b) (sym c.bx.ensures.value) ∙ sym c.meet.ensures.value ∙ c.in-Some.is)

pub returns-in-Some-clause-cells : goal.returns-in-Some-clause-cells
returns-in-Some-clause-cells c = λ x.
    let is = ap (λ (v : Corners). met v c.args.b) (sym c.bx.ensures.value) ∙ sym c.meet.ensures.value ∙ c.in-Some.is in
    c.mark.ensures.cells x ∙ ap (λ (v : Bool). v || tagged c.args.field.now x) (met_cells c.args.field.now.bx c.args.b c.in-Some.part is x)

pub returns-in_default-clause-cells : goal.returns-in_default-clause-cells
returns-in_default-clause-cells c = λ x.
    let is = ap (λ (v : Corners). met v c.args.b) (sym c.bx.ensures.value) ∙ sym c.meet.ensures.value ∙ c.in_default.is in
    sym (ap (λ (v : Bool). v || tagged c.args.field.now x) (met_none c.args.field.now.bx c.args.b is x))

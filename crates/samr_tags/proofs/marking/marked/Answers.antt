use Rattle.std.proofs.Common.{◌∙◌, ap}
use Rattle.std.specs.List.{list_any}
use Rattle.samr_box.specs.Corners.{holds}
use Rattle.samr_level.specs.Refs.{Owned}
use Rattle.samr_sign.specs.Fields.{tagged}
use Rattle.samr_tags.specs.Seeing.{marked_by}
use Rattle.samr_tags.proofs.Marks.{both}
use Rattle.samr_tags.proofs.marking.marked.Goals as goal

pub returns-clause-cells : goal.returns-clause-cells
returns-clause-cells c = λ x.
    both (λ b. holds b x) c.args.a.bx c.in_ok-field.field.bx c.mark_list.new.field.bx
    (marked_by c.args.frame.now c.args.buffer c.args.a c.args.own.now x)
    (list_any (λ letter. marked_by c.args.frame.now c.args.buffer c.args.a letter.body x) c.args.held.now)
    (tagged c.in_ok-field.field x) (tagged c.mark_list.new.field x) (tagged c.mark_held.new.field x)
    (c.in_ok-field.ensures.bx ∙ ap (λ (o : Owned). o.bx) c.a.view_is) c.mark_list.ensures.bx (c.in_ok-field.ensures.none x) (c.mark_list.ensures.cells x) (c.mark_held.ensures.cells x)

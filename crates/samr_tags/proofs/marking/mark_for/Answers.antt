use Rattle.std.proofs.Common.{◌≡◌, ◌∙◌, sym, ap}
use Rattle.std.specs.Prelude.{Bool, true, false, ◌&&◌, ◌||◌}
use Rattle.samr_box.specs.Corners.{holds}
use Rattle.samr_sign.specs.Fields.{tagged}
use Rattle.samr_tags.specs.Seeing.{is_for, marks}
use Rattle.samr_tags.proofs.Marks.{passes}
use Rattle.samr_tags.proofs.marking.mark_for.Goals as goal

pub returns-then-leads_to-clause-cells : goal.returns-then-leads_to-clause-cells
returns-then-leads_to-clause-cells c = λ x.
    let here : is_for c.args.a c.args.one.now ≡ true = sym c.if-leads_to.ensures in
    c.mark_seen.ensures.cells x
    ∙ ap (λ (t : Bool). (holds c.args.field.now.bx x && (t && marks c.args.frame.now c.args.buffer c.args.one.now x)) || tagged c.args.field.now x) (sym here)

pub returns-else-leads_to-clause-cells : goal.returns-else-leads_to-clause-cells
returns-else-leads_to-clause-cells c = λ x.
    let here : is_for c.args.a c.args.one.now ≡ false = sym c.if-leads_to.ensures in
    passes (holds c.args.field.now.bx x) (marks c.args.frame.now c.args.buffer c.args.one.now x) (is_for c.args.a c.args.one.now) (tagged c.args.field.now x) here

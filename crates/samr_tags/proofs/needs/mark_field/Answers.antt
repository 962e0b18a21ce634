use Rattle.std.specs.List.{list_any}
use Rattle.samr_box.specs.Corners.{holds}
use Rattle.samr_sign.specs.Fields.{tagged}
use Rattle.samr_tags.proofs.Marks.{twice}
use Rattle.samr_tags.proofs.needs.mark_field.Goals as goal

pub returns-clause-cells : goal.returns-clause-cells
returns-clause-cells c = λ x.
    twice (λ b. holds b x) c.args.field.bx c.mark_parts.new.field.bx
    (list_any (λ b. holds b x) c.args.own.now) (list_any (λ letter. list_any (λ b. holds b x) letter.body) c.args.held.now)
    (tagged c.args.field x) (tagged c.mark_parts.new.field x) (tagged c.mark_told.new.field x)
    c.mark_parts.ensures.bx (c.mark_parts.ensures.cells x) (c.mark_told.ensures.cells x)

use Rattle.std.proofs.Common.{◌∙◌, ap, codes}
use Rattle.toml.specs.View.{table_view}
use Rattle.samr_problem.specs.Findings.{found_at, least, or_worse}
use Rattle.samr_problem.specs.Keys.{boxes_list, box_keys}
use Rattle.samr_problem.specs.Slots.{tables_slots, top_slot}
use Rattle.samr_problem.proofs.walk.find_boxes.Goals as goal

pub returns : goal.returns
unfolding box_keys
returns c =
    c.find_in_list.ensures
    ∙ ap (λ tables. or_worse (found_at (top_slot c.args.document.now (table_view c.args.doc.now) boxes_list.list)) (least (tables_slots c.args.document.now (codes "box") box_keys tables))) c.requires.tables

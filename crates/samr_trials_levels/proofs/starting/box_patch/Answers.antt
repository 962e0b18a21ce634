use Rattle.std.proofs.Common.{rules}
use Rattle.samr_trials_levels.specs.First.{first_value}
use Rattle.samr_trials_levels.proofs.FirstPatches.{box_inside, box_written}
use Rattle.samr_trials_levels.proofs.starting.box_patch.Goals as goal

pub write_cells-requires-clause-into : goal.write_cells-requires-clause-into
write_cells-requires-clause-into c = box_inside c.in_ok-patch.patch c.args.bx c.args.width c.requires.positive c.in_ok-patch.ensures

pub write_cells-requires-clause-can : goal.write_cells-requires-clause-can
write_cells-requires-clause-can c = λ x h. search rules

pub returns : goal.returns
returns c =
    let f = first_value c.args.bound c.args.start c.args.field in
    box_written c.args.bx c.args.width c.in_ok-patch.patch c.write_cells.new.self f c.requires.whole.order c.in_ok-patch.ensures
    (c.write_cells.ensures f (λ x y h e. search rules))

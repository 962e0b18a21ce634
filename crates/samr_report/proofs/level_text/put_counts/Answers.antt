use Rattle.samr_report.proofs.level_text.put_counts.Goals as goal

pub count_boxes-requires : goal.count_boxes-requires
count_boxes-requires c = c.requires.boxes c.args.step c.args.level

pub count_cells-requires : goal.count_cells-requires
count_cells-requires c = c.requires.cells c.args.step c.args.level

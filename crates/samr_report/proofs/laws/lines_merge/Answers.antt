use Rattle.samr_report.proofs.LinesByRank.{box_lines_merge, edge_lines_merge, row_lines_merge}
use Rattle.samr_report.proofs.laws.lines_merge.Goals as goal

pub returns : goal.returns
returns c = record { boxes = box_lines_merge; edges = edge_lines_merge; rows = row_lines_merge }

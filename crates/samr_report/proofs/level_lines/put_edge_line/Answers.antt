use Rattle.samr_report.proofs.Pieces.{edge_pieces}
use Rattle.samr_report.proofs.level_lines.put_edge_line.Goals as goal

pub returns : goal.returns
returns c =
    edge_pieces c.args.base c.args.head c.args.edge _ c.args.out.now.items c.put_edge_levels.new.out.items c.put_link.new.out.items c.edge.view_is
    c.in_ok-put_edge_levels.ensures c.in_ok-put_link.ensures

use Rattle.std.proofs.Common.{◌≡◌, ◌∙◌, ◌++◌, ap, subst, arith}
use Rattle.std.specs.List.{flat_map, range_with_len}
use Rattle.samr_level.specs.Overlaps.{of_rank}
use Rattle.samr_report.specs.LevelLines.{edge_lines}
use Rattle.samr_report.specs.Level0Text.{edges0_of}
use Rattle.samr_report.proofs.Ranges.{one_more_appended}
use Rattle.samr_report.proofs.LinesByRank.{level0_edge_lines}
use Rattle.samr_report.proofs.level0_text.put_all_edges.Goals as goal

pub loop-rank-preserved : goal.loop-rank-preserved
loop-rank-preserved c =
    one_more_appended (λ r. edge_lines 0 0 (of_rank r (edges0_of c.args.problem.now c.args.ranks))) _ _ _ _ c.in_ok-put_edges_of_rank.ensures c.loop-rank.invariant

pub returns : goal.returns
returns c =
    let all : c.loop-rank.rank ≡ c.args.ranks = omega (arith, c.loop-rank-test.false, c.loop-rank.auto.rank-end) in
    subst (λ n. c.loop-rank.out.items ≡ c.args.out.now.items ++ flat_map (λ r. edge_lines 0 0 (of_rank r (edges0_of c.args.problem.now c.args.ranks))) (range_with_len 0 n)) all c.loop-rank.invariant
    ∙ ap (λ t. c.args.out.now.items ++ t) (level0_edge_lines c.args.problem.now c.args.ranks c.requires.level)

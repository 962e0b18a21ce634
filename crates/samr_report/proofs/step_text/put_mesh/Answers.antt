use Rattle.std.proofs.Common.{◌≡◌, ◌∙◌, ◌++◌, ap, arith, map}
use Rattle.samr_box.specs.Space.{is_zero}
use Rattle.samr_problem.specs.Fields.{Fields}
use Rattle.samr_report.specs.RankRows.{level_told, level_text_by}
use Rattle.samr_report.proofs.Ranges.{one_more_appended}
use Rattle.samr_report.proofs.MeshTexts.{mesh_is}
use Rattle.samr_report.proofs.step_text.put_mesh.Goals as goal

pub loop-level-preserved : goal.loop-level-preserved
loop-level-preserved c =
    one_more_appended (λ n. level_text_by c.is_zero-silent.result n (map (λ q. level_told c.args.step n q) c.args.rows.now))
    _ _ _ _ c.in_ok-put_level.ensures c.loop-level.invariant

pub returns : goal.returns
returns c =
    let all : c.loop-level.level ≡ c.level_count-level-end.result = omega (arith, c.loop-level-test.false, c.loop-level.auto.level-end) in
    c.loop-level.invariant
    ∙ ap (λ v. c.args.out.now.items ++ v)
    (mesh_is c.args.problem.now c.args.step c.args.rows.now c.is_zero-silent.result c.loop-level.level
    (c.is_zero-silent.ensures ∙ ap (λ (q : Fields). is_zero q.width) c.problem.view_is) (all ∙ c.level_count-level-end.ensures))

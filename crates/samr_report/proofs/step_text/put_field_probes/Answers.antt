use Rattle.std.proofs.Common.{◌≡◌, ◌∙◌, ◌++◌, ℕ, ap, sym, arith, get_or, map, [], None}
use Rattle.std.specs.List.{flat_map, range_with_len}
use Rattle.samr_report.specs.RankRows.{step_told, first_some, probe_line_by}
use Rattle.samr_report.proofs.Ranges.{one_more_appended}
use Rattle.samr_report.proofs.Firsts.{numbers_alone}
use Rattle.samr_report.proofs.step_text.put_field_probes.Goals as goal

pub loop-number-preserved : goal.loop-number-preserved
loop-number-preserved c =
    one_more_appended (λ n. probe_line_by c.args.field n (first_some (map (λ q. get_or (get_or q.probes c.args.field []) n None) (map (λ q. step_told c.args.step q) c.args.rows.now))))
    _ _ _ _ c.in_ok-put_probe_of.ensures c.loop-number.invariant

pub returns : goal.returns
returns c =
    let all : c.loop-number.number ≡ c.probe_count-number-end.result = omega (arith, c.loop-number-test.false, c.loop-number.auto.number-end) in
    c.loop-number.invariant
    ∙ ap (λ (n : ℕ). c.args.out.now.items ++ flat_map (λ n. probe_line_by c.args.field n (first_some (map (λ q. get_or (get_or q.probes c.args.field []) n None) (map (λ q. step_told c.args.step q) c.args.rows.now)))) (range_with_len 0 n)) (all ∙ c.probe_count-number-end.ensures)
    ∙ ap (λ v. c.args.out.now.items ++ v) (sym (numbers_alone (λ n. probe_line_by c.args.field n (first_some (map (λ q. get_or (get_or q.probes c.args.field []) n None) (map (λ q. step_told c.args.step q) c.args.rows.now)))) 0 c.args.problem.now.probes))

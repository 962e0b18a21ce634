use Rattle.std.proofs.Common.{◌+◌, arith, sym, subst}
use Rattle.std.proofs.lemmas.Bool.{false≢true}
use Rattle.samr_problem.specs.Fields.{Fields}
use Rattle.samr_verify.specs.ReportLines.{IsMeaning}
use Rattle.samr_verify.specs.Verdicts.{IsVerdict}
use Rattle.samr_verify.proofs.VerdictLaws.{walk_step, fewer_step, walk_ends}
use Rattle.samr_verify.proofs.verdict.verify_text.Goals as goal

pub loop-text-preserved : goal.loop-text-preserved
loop-text-preserved c =
    let means = subst (λ (p : Fields). IsMeaning p.levels c.in-Some.text.now c.meaning-line.result) c.problem.view_is c.meaning-line.ensures in
    record {
      walked =
          walk_step c.args.problem.now c.args.report.now c.loop-text.rest.now c.in-Some.text.now c.in-Some.others.now c.loop-text.standing c.stand-standing.result
          c.loop-text.known c.in_ok-known.known (c.loop-text.number + 1) c.meaning-line.result c.in-Some.ensures.some.0 means c.stand-standing.ensures
          c.in_ok-known.ensures c.loop-text.invariant.walked;
      fewer =
          fewer_step c.args.problem.now c.stand-standing.result c.loop-text.known c.in_ok-known.known (c.loop-text.number + 1) c.meaning-line.result c.in_ok-known.ensures
          c.loop-text.invariant.fewer;
      counted = omega (arith, c.in-Some.ensures.some.1, c.loop-text.invariant.counted);
    }

pub returns : goal.returns
returns c =
    subst (λ v. IsVerdict c.args.problem.now c.args.report.now v) (sym c.concluded.ensures)
    (walk_ends c.args.problem.now c.args.report.now c.loop-text.rest.now c.loop-text.standing c.loop-text.known (c.loop-text.number + 1) (c.in_default.ensures.none (λ some. absurd (false≢true some)))
    c.loop-text.invariant.walked)

use Rattle.std.proofs.Common.{◌++◌, ◌+◌, List, suc, take, arith, sym, ap, ◌∙◌, append-nil}
use Rattle.samr_verify.specs.declared.edges.DueEdge.{DueEdge}
use Rattle.samr_verify.proofs.Missing.{none_above}
use Rattle.samr_verify.proofs.due.push_up.Goals as goal

pub returns-then-l-levels : goal.returns-then-l-levels
returns-then-l-levels c =
    ap (λ (l : List DueEdge). take (suc c.args.most) l)
    (sym (ap (λ (l : List DueEdge). c.args.out.now.items ++ l) (none_above c.args.problem.now c.args.levels.now c.args.l (c.args.l + 1) (omega (arith, c.if-l-levels.true)))
    ∙ append-nil c.args.out.now.items))

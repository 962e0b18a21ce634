use Rattle.std.proofs.Common.{sym, subst}
use Rattle.samr_problem.specs.Problems.{IsProblem}
use Rattle.samr_generate.proofs.MadeLaws.{made_is, same_made}
use Rattle.samr_generate.proofs.problem.make_problem.Goals as goal

pub invariant_of-result : goal.invariant_of-result
invariant_of-result c =
    subst IsProblem
    (sym (same_made c.args.seed c.args.size _ _ _ _ _ _ _ _ _ c.square.ensures c.flat.ensures c.flat-2.ensures c.flat-3.ensures c.in_ok-ratio.ensures c.in_ok-fields.ensures c.new.ensures c.new-2.ensures c.in_ok-shapes.ensures))
    (made_is c.args.seed c.args.size c.requires.some c.requires.few)

pub returns : goal.returns
returns c =
    same_made c.args.seed c.args.size _ _ _ _ _ _ _ _ _ c.square.ensures c.flat.ensures c.flat-2.ensures c.flat-3.ensures c.in_ok-ratio.ensures c.in_ok-fields.ensures c.new.ensures c.new-2.ensures c.in_ok-shapes.ensures

use Rattle.std.proofs.Common.{◌∙◌, rules}
use Rattle.samr_rounds.proofs.DirectedRoots.{directed_pushed, directed_none}
use Rattle.samr_rounds.proofs.roots.directed.Goals as goal

pub loop-number-init : goal.loop-number-init
loop-number-init c = c.new-own.ensures.items ∙ directed_none c.args.ranks c.args.director c.args.roots.now

pub loop-number-preserved : goal.loop-number-preserved
loop-number-preserved c =
    directed_pushed c.args.ranks c.args.director c.loop-number.number c.args.roots.now c.loop-number.own.items c.push_where.new.to.items c.index-roots-number.result _
    c.loop-number-test.true c.index-roots-number.is c.loop-number.invariant (search rules) c.in_ok-push_where.ensures

use Rattle.std.proofs.Common.{◌∙◌, sym, arith}
use Rattle.std.specs.Prelude.{unsigned_abs}
use Rattle.samr_load.specs.Balanced.{balancing}
use Rattle.samr_load.proofs.PlainSteps.{gathered_is, stayed_root}
use Rattle.samr_load.proofs.plain.stayed.Goals as goal

pub returns : goal.returns
returns c =
    let b = balancing c.args.plan.now.ranks (unsigned_abs c.args.plan.now.smallest) c.args.plan.now.boxes in
    gathered_is b c.args.rank c.requires c.children-first.result.0 c.children-first.result.1 c.children-first.ensures.first c.children-first.ensures.second
    c.in_ok-hand.hand.items c.in_ok-first.first.given.items c.in_ok-second.second.given.items
    c.in_ok-hand.ensures c.in_ok-first.ensures.given c.in_ok-second.ensures.given
    ∙ sym (stayed_root b c.args.rank (omega (arith, c.if-rank-gt0.false)))

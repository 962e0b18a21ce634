use Rattle.std.proofs.Common.{◌∙◌, sym, arith}
use Rattle.samr_fill.proofs.fill_on_all.fill_all.Goals as goal

pub exchange-requires-clause-parts : goal.exchange-requires-clause-parts
exchange-requires-clause-parts g c =
    let made = c.in_ok-stages.ensures c.requires.parts.0 c.requires.parts.1 in
    (c.requires.parts.0, made)

pub exchange-requires-clause-few : goal.exchange-requires-clause-few
exchange-requires-clause-few g c =
    let count = (c.in_ok-stages.ensures c.requires.parts.0 c.requires.parts.1).same_ranks in
    let all = c.requires.parts.1.same_ranks in
    omega (arith, count, all, c.requires.few)

pub returns : goal.returns
returns g c = λ w h.
    let made = c.in_ok-stages.ensures w h in
    (c.in_ok-outs.ensures.len ∙ sym made.same_ranks, c.in_ok-outs.ensures.outs w made)

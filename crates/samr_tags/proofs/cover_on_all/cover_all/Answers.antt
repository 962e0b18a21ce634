use Rattle.std.proofs.Common.{◌∙◌, sym, arith}
use Rattle.samr_tags.proofs.cover_on_all.cover_all.Goals as goal

pub exchange-requires-clause-parts : goal.exchange-requires-clause-parts
exchange-requires-clause-parts c =
    let made = c.in_ok-stages.ensures c.requires.parts.0 c.requires.parts.1 in
    (c.requires.parts.0, record { same_ranks = sym made.count; part = made.each })

pub exchange-requires-clause-few : goal.exchange-requires-clause-few
exchange-requires-clause-few c =
    let count = (c.in_ok-stages.ensures c.requires.parts.0 c.requires.parts.1).count in
    let all = c.requires.parts.1.same_ranks in
    omega (arith, count, all, c.requires.few)

pub returns : goal.returns
returns c = λ w h t.
    let made = c.in_ok-stages.ensures w h in
    (c.in_ok-outs.ensures.len ∙ made.count, λ rank out got. c.in_ok-outs.ensures.outs w (record { same_ranks = sym made.count; part = made.each }) rank out got t)

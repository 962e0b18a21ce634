use Rattle.std.proofs.Common.{◌∙◌, sym, arith}
use Rattle.samr_sched.proofs.AskOnAllLaws.{ranks_parts}
use Rattle.samr_sched.proofs.ask_on_all.ask_all.Goals as goal

pub exchange-requires-clause-parts : goal.exchange-requires-clause-parts
exchange-requires-clause-parts c =
    let made = c.in_ok-stages.ensures c.requires.parts.0 c.requires.parts.1 in
    (c.requires.parts.0, record { same_ranks = sym made.count; part = made.each })

pub exchange-requires-clause-few : goal.exchange-requires-clause-few
exchange-requires-clause-few c =
    let w = c.requires.parts.0 in
    let count = (c.in_ok-stages.ensures w c.requires.parts.1).count in
    let all = ranks_parts c.args.region.now c.args.parts.now c.args.selves.now c.args.coarser.now c.args.ghosts.now c.args.fixed.now w c.requires.parts.1 in
    omega (arith, count, all, c.requires.ranks)

pub returns : goal.returns
returns c = λ w h.
    let made = c.in_ok-stages.ensures w h in
    (c.in_ok-outs.ensures.len ∙ made.count, λ rank out got. c.in_ok-outs.ensures.outs w (record { same_ranks = sym made.count; part = made.each }) rank out got)

use Rattle.std.proofs.Common.{◌≡◌, ◌<◌, ◌∙◌, sym, arith, length}
use Rattle.samr_tree.specs.SumUp.{IsSum}
use Rattle.samr_tree.specs.TreeSum.{sums_at}
use Rattle.samr_tree.specs.TreeLaws.{ranks_at}
use Rattle.samr_tree.proofs.Seating.{up_part}
use Rattle.samr_tree.proofs.OnAllLemmas.{each_more, number_read, after_up}
use Rattle.samr_trials_engine.proofs.trees.up_once.Goals as goal

pub each-preserved : goal.each-preserved
each-preserved c =
    let values = c.args.values.now in
    let whole = sums_at values c.args.round in
    let before = c.each.invariant in
    let within : c.each.rank < length values = omega arith in
    let has = number_read whole.number (length values) c.args.numbers.now c.requires.before c.from.result c.each.rank c.from.ensures within in
    let part = c.in_ok-start.ensures.starts whole c.each.rank (up_part values c.each.rank _ c.args.round _ c.requires.summable within (omega arith) has) in
    (omega (arith, c.in_ok-push.ensures.len, before.0), each_more (λ k s. IsSum s.rank s.ranks s.round s.number whole k) c.each.stages.items c.push.new.self.items c.each.rank c.in_ok-start.field-0 before.0 before.1 part c.in_ok-push.ensures.items)

pub exchange-requires-clause-parts : goal.exchange-requires-clause-parts
exchange-requires-clause-parts c =
    let values = c.args.values.now in
    let done = c.each.invariant in
    let all : length values ≡ length c.each.stages.items = omega (arith, done.0) in
    (sums_at values c.args.round, record { same_ranks = ranks_at values c.args.round ∙ all; part = done.1 })

pub returns : goal.returns
returns c =
    let values = c.args.values.now in
    let done = c.each.invariant in
    let all : length values ≡ length c.each.stages.items = omega (arith, done.0) in
    after_up values c.args.round c.in_ok-after.after.items (c.in_ok-after.ensures.len ∙ sym all) (c.in_ok-after.ensures.outs (sums_at values c.args.round) (record { same_ranks = ranks_at values c.args.round ∙ all; part = done.1 }))

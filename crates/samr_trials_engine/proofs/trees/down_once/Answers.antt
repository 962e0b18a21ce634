use Rattle.std.proofs.Common.{◌≡◌, ◌<◌, refl, ap, arith, length, get_or}
use Rattle.samr_tree.specs.TellDown.{Tellings, IsTelling}
use Rattle.samr_tree.proofs.OnAllLemmas.{each_more}
use Rattle.samr_trials_engine.proofs.trees.down_once.Goals as goal

pub each-preserved : goal.each-preserved
each-preserved c =
    let numbers = c.args.numbers.now in
    let whole : Tellings = record { ranks = length numbers; round = c.args.round; number = λ r. get_or numbers r 0 } in
    let before = c.each.invariant in
    let within : c.each.rank < length numbers = omega arith in
    let has = ap (λ i. get_or numbers i 0) c.from.ensures in
    let part = c.in_ok-start.ensures.starts whole c.each.rank (record { same_rank = refl; same_ranks = omega arith; same_round = refl; same_number = has; within = omega arith }) in
    (omega (arith, c.in_ok-push.ensures.len, before.0), each_more (λ k s. IsTelling s.rank s.ranks s.round s.number whole k) c.each.stages.items c.push.new.self.items c.each.rank c.in_ok-start.field-0 before.0 before.1 part c.in_ok-push.ensures.items)

pub exchange-requires-clause-parts : goal.exchange-requires-clause-parts
exchange-requires-clause-parts c =
    let numbers = c.args.numbers.now in
    let whole : Tellings = record { ranks = length numbers; round = c.args.round; number = λ r. get_or numbers r 0 } in
    let done = c.each.invariant in
    let all : length numbers ≡ length c.each.stages.items = omega (arith, done.0) in
    (whole, record { same_ranks = all; part = done.1 })

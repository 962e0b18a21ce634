use Rattle.std.proofs.Common.{◌∙◌, subst, sym}
use Rattle.std.proofs.lemmas.List.{take_all}
use Rattle.std.proofs.lemmas.List.Elements.{All-push}
use Rattle.std.specs.List.{All}
use Rattle.samr_ops.specs.Rules.{IsRules}
use Rattle.samr_trials_levels.proofs.Steps.{one_taken}
use Rattle.samr_trials_levels.proofs.premises.rules_of.Goals as goal

pub loop-strategy-preserved : goal.loop-strategy-preserved
loop-strategy-preserved g c =
    let before = c.loop-strategy.invariant in
    let own = c.rules-own.result in
    let ranges = subst IsRules (sym c.rules-own.ensures.value) c.rules-own.ensures.ranges in (
      one_taken c.args.strategies.now c.loop-strategy.strategy-index c.strategy-item.result own c.loop-strategy.list.items c.push.new.self.items
          c.loop-strategy-test.true c.strategy-item.is c.rules-own.ensures.value before.0 c.in_ok-push.ensures.items,
      subst (All IsRules) (sym c.in_ok-push.ensures.items) (All-push IsRules c.loop-strategy.list.items own before.1 ranges),
    )

pub returns-clause-same : goal.returns-clause-same
returns-clause-same g c = c.loop-strategy.invariant.0 ∙ take_all c.loop-strategy.strategy-index c.args.strategies.now c.loop-strategy-test.false

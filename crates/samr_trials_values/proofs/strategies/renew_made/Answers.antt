use Rattle.std.proofs.Common.{◌≡◌, ◌∙◌, subst, length, IfSome}
use Rattle.std.specs.Prelude.{List}
use Rattle.samr_stage.specs.Exchange.{AreResults}
use Rattle.samr_level.specs.Regions.{Area}
use Rattle.samr_ops.specs.declared.rules.Rules.{Rules}
use Rattle.samr_values.specs.Values.{renewed}
use Rattle.samr_trials_values.specs.Renewals.{renewing}
use Rattle.samr_trials_values.proofs.strategies.renew_made.Goals as goal

pub returns : goal.returns
returns g c =
    let area : Area = record { frame = c.args.frame; parts = c.args.parts.now } in
    subst
    (λ (l : List Rules).
    IfSome c.in_ok-made.made
    (λ outs.
    (length outs.items ≡ c.args.ranks)
    × AreResults (λ w rank out. out ≡ renewed w rank) (renewing area c.args.block c.args.step c.args.fine_block c.args.news c.args.olds c.args.ranks c.args.width c.args.bound l) outs.items))
    (c.as_slice.ensures.value ∙ c.in_ok-list.ensures) c.in_ok-made.ensures

use Rattle.std.proofs.Common.{◌≡◌, ◌∙◌, ap, subst}
use Rattle.std.specs.Prelude.{List}
use Rattle.samr_stage.specs.Exchange.{AreResults}
use Rattle.samr_box.specs.Corners.{Corners}
use Rattle.samr_level.specs.Regions.{Area}
use Rattle.samr_values.specs.Values.{Renewing, renewed}
use Rattle.samr_trials_values.proofs.RenewLaws.{same_blocks}
use Rattle.samr_trials_values.proofs.renewals.renew.Goals as goal

pub returns : goal.returns
returns g c =
    let area : Area = record { frame = c.args.frame; parts = c.args.parts.now } in
    let is : c.in-Some.region ≡ area =
    c.in-Some.ensures.value ∙ ap (λ (l : List Corners). let a : Area = record { frame = c.args.frame; parts = l } in a) c.in_ok-copied.ensures.items in (
      c.in_ok-outs.ensures.count,
      subst (λ (w : Renewing). AreResults (λ w rank out. out ≡ renewed w rank) w c.in_ok-outs.outs.items)
          (same_blocks c.in-Some.region area c.args.block c.args.step c.args.fine_block c.args.news c.args.olds c.args.ranks c.args.width c.args.bound c.as_slice-rules.result.now c.args.strategies.now
          is (c.as_slice-rules.ensures.value ∙ c.in_ok-list.ensures.same))
          c.in_ok-outs.ensures.values,
    )

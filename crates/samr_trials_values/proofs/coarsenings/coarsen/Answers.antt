use Rattle.std.proofs.Common.{◌≡◌, ◌∙◌, ap, subst}
use Rattle.std.specs.Prelude.{List}
use Rattle.samr_stage.specs.Exchange.{AreResults}
use Rattle.samr_box.specs.Corners.{Corners}
use Rattle.samr_level.specs.Regions.{Area}
use Rattle.samr_values.specs.Coarsen.{Coarsening, coarsened_patches}
use Rattle.samr_trials_values.proofs.CoarsenLaws.{same_coarse_blocks}
use Rattle.samr_trials_values.proofs.coarsenings.coarsen.Goals as goal

pub returns : goal.returns
returns c =
    let area : Area = record { frame = c.args.frame; parts = c.args.parts.now } in
    let is : c.in-Some.region ≡ area =
    c.in-Some.ensures.value ∙ ap (λ (l : List Corners). let a : Area = record { frame = c.args.frame; parts = l } in a) c.in_ok-copied.ensures.items in (
      c.in_ok-outs.ensures.count,
      subst (λ (w : Coarsening). AreResults (λ w rank out. out ≡ coarsened_patches w rank) w c.in_ok-outs.outs.items)
          (same_coarse_blocks c.in-Some.region area c.args.block c.args.step c.args.fine_block c.args.over c.args.ranks c.args.width c.args.bound c.args.rules.now c.args.moduli.now c.args.widths.now is)
          c.in_ok-outs.ensures.values,
    )

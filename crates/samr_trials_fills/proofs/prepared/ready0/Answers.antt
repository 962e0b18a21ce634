use Rattle.std.proofs.Common.{◌∙◌, subst}
use Rattle.std.specs.Prelude.{pos, []}
use Rattle.samr_box.specs.Vector.{alike}
use Rattle.samr_level.specs.Blocks.{level0}
use Rattle.samr_fill.specs.Fill.{Filling}
use Rattle.samr_trials_fills.specs.Ready.{AreReady}
use Rattle.samr_trials_fills.proofs.FillLaws.{can_from0, same_filling}
use Rattle.samr_trials_fills.proofs.prepared.ready0.Goals as goal

pub whole_level0-requires : goal.whole_level0-requires
whole_level0-requires c = c.requires.blocks

pub made_ready-requires : goal.made_ready-requires
made_ready-requires c =
    can_from0 c.args.region.now c.args.block c.args.ranks c.args.width c.args.bound c.args.fixed.now c.args.rules.now c.same_ratio-one.result c.as_slice.result.now c.as_slice-2.result.now
    c.requires c.same_ratio-one.ensures (c.as_slice.ensures.value ∙ c.in_ok-level.ensures.value) (c.as_slice-2.ensures.value ∙ c.new-none.ensures.items)

pub returns : goal.returns
returns c =
    subst (λ (w : Filling). AreReady c.in_ok-ready.ready c.args.rules.now w)
    (same_filling c.args.region.now c.same_ratio-one.result (alike (pos 1)) c.args.ranks c.args.width c.args.bound c.args.fixed.now c.args.rules.now
    c.as_slice.result.now (level0 c.args.region.now c.args.block c.args.ranks) c.as_slice-2.result.now []
    c.same_ratio-one.ensures (c.as_slice.ensures.value ∙ c.in_ok-level.ensures.value) (c.as_slice-2.ensures.value ∙ c.new-none.ensures.items))
    c.in_ok-ready.ensures

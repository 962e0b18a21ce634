-- What ranks have before a fill.
use Rattle.std.specs.Prelude.{◌<◌, ◌^◌, List, length}
use Rattle.samr_ops.specs.declared.rules.Rules.{Rules}
use Rattle.samr_fill.specs.Fill.{Filling}
use Rattle.samr_fill.specs.FillOnAll.{HaveAllPatches}
use Rattle.samr_trials_fills.specs.declared.prepared.Prepared.{Prepared}

-- the plans and patches of all ranks are those of a whole fill
pub record AreReady (p : Prepared) (rules : List Rules) (w : Filling) : Type 0 where
  pub few : length p.own.items < 2 ^ 16
  pub all : HaveAllPatches p.plans.items p.own.items p.below.items rules w

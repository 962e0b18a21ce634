use Rattle.std.proofs.Common.{sym, subst}
use Rattle.std.specs.Prelude.{List}
use Rattle.samr_data.specs.Grids.{Grid}
use Rattle.samr_sched.specs.declared.plan.Plan.{Plan}
use Rattle.samr_fill.specs.FillOnAll.{HaveAllPatches}
use Rattle.samr_trials_fills.proofs.strategies.fill_prepared.Goals as goal

pub returns : goal.returns
returns g c = λ w h.
    c.in_ok-outs.ensures w
    (subst (λ (v : List Plan). HaveAllPatches v c.args.ready.own.items c.as_slice-2.result.now c.args.strategies.now w) (sym c.as_slice.ensures.value)
    (subst (λ (v : List (List (List Grid))). HaveAllPatches c.args.ready.plans.items c.args.ready.own.items v c.args.strategies.now w) (sym c.as_slice-2.ensures.value) h.all))

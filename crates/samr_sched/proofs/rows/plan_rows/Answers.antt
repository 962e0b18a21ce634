use Rattle.std.proofs.Common.{◌∙◌, ap, sym, subst}
use Rattle.samr_sched.specs.declared.plan.Plan.{Plan}
use Rattle.samr_sched.specs.PlanRows.{rows_by, HaveRoom}
use Rattle.samr_sched.proofs.RowCounts.{rows_are, have_room}
use Rattle.samr_sched.proofs.rows.plan_rows.Goals as goal

pub all_rows-requires : goal.all_rows-requires
all_rows-requires c =
    let g = c.requires in
    let room : Plan → Type 0 = λ p. HaveRoom p.boxes in
    subst room (sym g.4) (have_room g.0 g.2 g.1 g.3)

pub returns : goal.returns
returns c = λ w r h e. c.in_ok-rows.ensures ∙ ap rows_by e ∙ rows_are w h r

use Rattle.std.proofs.Common.{sym, ◌∙◌}
use Rattle.samr_box.specs.Corners.{meets}
use Rattle.samr_box.specs.Space.{image}
use Rattle.samr_sched.proofs.Plain.{and_not}
use Rattle.samr_sched.proofs.making.has_ghosts.Goals as goal

pub returns-then-head_meets : goal.returns-then-head_meets
returns-then-head_meets c =
    let there = image c.args.d.now c.args.e.head.bx c.args.e.shift in
    and_not (meets there c.args.wide) (meets there c.args.b) (sym c.head_meets.ensures ∙ c.if-head_meets.true)

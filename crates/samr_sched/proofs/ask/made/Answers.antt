use Rattle.std.proofs.Common.{refl, ap, ◌∙◌}
use Rattle.samr_box.specs.Space.{Space, finer}
use Rattle.samr_sched.specs.declared.making.Ground.{Ground}
use Rattle.samr_sched.proofs.MadeLaws.{made_is}
use Rattle.samr_sched.proofs.ask.made.Goals as goal

pub returns : goal.returns
returns c = λ w r h.
    let n : Ground = record { domain = c.in_ok-refined.field-0; below = c.finer.result; step = c.step_between.result } in
    made_is c.args.rank c.args.region.now c.args.part.now c.args.selves.now c.args.ratio_below c.args.downs.now c.args.ups.now c.args.ghosts.now c.args.fixed.now w r h
    n c.as_slice-2.result.now c.as_slice.result.now c.frame-2.result.now c.finer.result c.step_between.result c.in_ok-boxes.boxes.items
    c.in_ok-other_owners.field-0.items c.in_ok-other_owners-2.field-0.items c.in_ok-other_owners-3.field-0.items c.in_ok-from_slice.field-0.items c.as_slice-3.result.now
    c.in_ok-refined.ensures (c.finer.ensures ∙ ap (λ (d : Space). finer d c.args.ratio_below) c.frame.ensures) c.step_between.ensures c.as_slice-2.ensures c.as_slice.ensures c.in_ok-boxes.ensures
    c.frame-2.ensures refl refl c.as_slice-3.ensures c.in_ok-other_owners.ensures c.in_ok-other_owners-2.ensures c.in_ok-other_owners-3.ensures c.in_ok-from_slice.ensures.items

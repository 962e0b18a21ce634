use Rattle.std.proofs.Common.{◌∙◌}
use Rattle.samr_box.specs.Space.{image}
use Rattle.samr_sched.proofs.Plain.{meets_swap}
use Rattle.samr_sched.proofs.making.image_meets.Goals as goal

pub returns : goal.returns
returns c = c.images_meet.ensures.value ∙ meets_swap c.args.b (image c.args.d.now c.args.h c.args.s)

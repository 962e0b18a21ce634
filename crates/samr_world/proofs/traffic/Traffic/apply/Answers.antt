use Rattle.samr_world.specs.declared.event.Event.TheVariants.{Turn, Deliver, Repeat, Lose}
use Rattle.samr_world.specs.Traffic.{shape_of}
use Rattle.samr_world.proofs.PlayedEvents.{keeps_after}
use Rattle.samr_world.proofs.traffic.Traffic.apply.Goals as goal

pub returns-in_ok-enabled-in-Turn-clause-keeps : goal.returns-in_ok-enabled-in-Turn-clause-keeps
returns-in_ok-enabled-in-Turn-clause-keeps g c =
    let after = c.in_ok-enabled-in-Turn.ensures in
    keeps_after g.P.Program g.P.Mail.Mail g.met.P.Mail.Mail.truth g.met.P.Program.on_course (shape_of c.args.self.now) (shape_of c.turn.new.self) (Turn c.in-Turn.rank) c.in_ok-enabled-in-Turn.enabled after.enabled after.disabled after.happens

pub returns-in_ok-enabled-in-Deliver-clause-keeps : goal.returns-in_ok-enabled-in-Deliver-clause-keeps
returns-in_ok-enabled-in-Deliver-clause-keeps g c =
    let after = c.in_ok-enabled-in-Deliver.ensures in
    keeps_after g.P.Program g.P.Mail.Mail g.met.P.Mail.Mail.truth g.met.P.Program.on_course (shape_of c.args.self.now) (shape_of c.deliver.new.self) (Deliver c.in-Deliver.place) c.in_ok-enabled-in-Deliver.enabled after.enabled after.disabled after.happens

pub returns-in_ok-enabled-in-Repeat-clause-keeps : goal.returns-in_ok-enabled-in-Repeat-clause-keeps
returns-in_ok-enabled-in-Repeat-clause-keeps g c =
    let after = c.in_ok-enabled-in-Repeat.ensures in
    keeps_after g.P.Program g.P.Mail.Mail g.met.P.Mail.Mail.truth g.met.P.Program.on_course (shape_of c.args.self.now) (shape_of c.repeat.new.self) (Repeat c.in-Repeat.place) c.in_ok-enabled-in-Repeat.enabled after.enabled after.disabled after.happens

pub returns-in-Lose-clause-keeps : goal.returns-in-Lose-clause-keeps
returns-in-Lose-clause-keeps g c =
    let after = c.lose-enabled.ensures in
    keeps_after g.P.Program g.P.Mail.Mail g.met.P.Mail.Mail.truth g.met.P.Program.on_course (shape_of c.args.self.now) (shape_of c.lose-enabled.new.self) (Lose c.in-Lose.place) c.lose-enabled.result after.enabled after.disabled after.happens

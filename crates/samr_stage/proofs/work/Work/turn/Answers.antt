use Rattle.samr_stage.specs.Work.{state_of}
use Rattle.samr_stage.proofs.Machines.{sound_posted}
use Rattle.samr_stage.proofs.work.Work.turn.Goals as goal

pub returns-in-Some-pop_front-clause-sound : goal.returns-in-Some-pop_front-clause-sound
returns-in-Some-pop_front-clause-sound g c =
    let front = c.in-Some-pop_front.ensures.items in
    sound_posted g.P.Program g.P.Mail.Mail (state_of c.args.self.now) c.in-Some-pop_front.letter c.pop_front.new.self.items c.requires c.if-self.false front

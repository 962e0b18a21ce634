use Rattle.std.proofs.Common.{false}
use Rattle.samr_drive.proofs.Decisions.{same_or_not}
use Rattle.samr_drive.proofs.Turns.{drove_taken, drove_left, takes_of}
use Rattle.samr_drive.proofs.step.take_one.Goals as goal

pub returns-in-None-clause-drove : goal.returns-in-None-clause-drove
returns-in-None-clause-drove g c = λ hand. drove_left g.P.Program g.P.Mail.Mail g.L.Link c.args.machine.now c.args.end.now c.take.new.self hand c.take.ensures.same c.take.ensures.posted c.in-None.ensures.untaken

pub returns-in_ok-turn-in-Some-clause-drove : goal.returns-in_ok-turn-in-Some-clause-drove
returns-in_ok-turn-in-Some-clause-drove g c = λ hand.
    drove_taken g.P.Program g.P.Mail.Mail g.L.Link (same_or_not g.row.P-Mail-Run.coded) c.args.machine.now c.in-Some.letter c.turn.new.self c.args.end.now c.take.new.self hand (takes_of g.P.Program g.P.Mail.Mail g.L.Link c.args.machine.now c.in-Some.letter false c.in_ok-turn-in-Some.field-0 c.turn.new.self c.in_ok-turn-in-Some.ensures.rule) c.take.ensures.same c.take.ensures.posted c.in-Some.ensures.taken

use Rattle.std.proofs.Common.{None}
use Rattle.samr_drive.proofs.Moves.{drove_more}
use Rattle.samr_drive.proofs.Turns.{posts_all, takes_all, finished_at}
use Rattle.samr_drive.proofs.kept.turn_kept.Goals as goal

pub returns-in-Ok-Moved-clause-stands : goal.returns-in-Ok-Moved-clause-stands
returns-in-Ok-Moved-clause-stands g c = λ s e drove.
    rw c.in-Ok-Moved.field-0-is (drove_more g.P.Program g.P.Mail.Mail g.L.Link s e None c.args.machine c.args.end c.args.hand c.step_once.new.machine c.step_once.new.end c.in-Ok-Moved.hand drove (rw c.in-Ok-Moved.field-0-is at c.in-Ok-Moved.ensures.drove))

pub returns-in-Ok-Waits-clause-stands : goal.returns-in-Ok-Waits-clause-stands
returns-in-Ok-Waits-clause-stands g c = λ s e drove.
    rw c.in-Ok-Waits.field-0-is (drove_more g.P.Program g.P.Mail.Mail g.L.Link s e None c.args.machine c.args.end c.args.hand c.step_once.new.machine c.step_once.new.end c.in-Ok-Waits.hand drove (rw c.in-Ok-Waits.field-0-is at c.in-Ok-Waits.ensures.drove))

pub returns-in-Ok-Over-clause-stands : goal.returns-in-Ok-Over-clause-stands
returns-in-Ok-Over-clause-stands g c = λ s e drove.
    let p = g.P.Program in
    let m = g.P.Mail.Mail in
    let w = g.L.Link in
    let over = rw c.in-Ok-Over.field-0-is at c.in-Ok-Over.ensures.over in
    let steady = rw c.in-Ok-Over.field-0-is at c.in-Ok-Over.ensures.steady in
    let all = drove_more p m w s e None c.args.machine c.args.end c.args.hand c.step_once.new.machine c.step_once.new.end None drove (rw c.in-Ok-Over.field-0-is at c.in-Ok-Over.ensures.drove) in
    record {
      same_end = all.same_end;
      finished = rw c.into_program.ensures (finished_at p m w s e c.step_once.new.machine c.step_once.new.end all (steady.sound over.1) over.0);
      posted = posts_all p m w s e c.step_once.new.machine c.step_once.new.end all (steady.sound over.1) over.0;
      taken = takes_all p m w s e c.step_once.new.machine c.step_once.new.end all (steady.sound over.1) over.0;
    }

use Rattle.std.proofs.Common.{None}
use Rattle.samr_drive.proofs.Moves.{drove_none}
use Rattle.samr_drive.proofs.thread_of.slot_of.Goals as goal

pub returns-in-Back : goal.returns-in-Back
returns-in-Back g c = λ s e steady kept.
    let back = rw c.in-Back.is at kept in
    (rw (back.0, back.1) (drove_none g.P.Program g.P.Mail.Mail g.L.Link s e None), rw (back.0, back.1) steady)

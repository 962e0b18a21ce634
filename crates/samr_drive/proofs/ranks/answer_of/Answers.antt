use Rattle.std.proofs.Common.{sym}
use Rattle.samr_drive.proofs.ranks.answer_of.Goals as goal

pub returns-in-Back : goal.returns-in-Back
returns-in-Back g c = λ s e kept.
    let back = rw c.in-Back.is at kept in
    let done = c.drive.ensures in
    rw (sym back.0, sym back.1) (record { same_end = done.same_end; finished = done.finished; posted = done.posted; taken = done.taken })

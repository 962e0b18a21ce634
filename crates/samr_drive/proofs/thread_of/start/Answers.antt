use Rattle.std.proofs.Common.{rules}
use Rattle.samr_drive.specs.Slots.{KeptBy}
use Rattle.samr_drive.proofs.thread_of.start.Goals as goal

pub returns-in-Err-clause-stands : goal.returns-in-Err-clause-stands
returns-in-Err-clause-stands g c =
    let kept : KeptBy g.P.Program g.P.Mail.Mail g.L.Link c.args.machine c.args.end c.work.result = search rules in
    (c.slot_of.ensures c.args.machine c.args.end c.requires kept).0

pub returns-in-Err-clause-fit : goal.returns-in-Err-clause-fit
returns-in-Err-clause-fit g c =
    let kept : KeptBy g.P.Program g.P.Mail.Mail g.L.Link c.args.machine c.args.end c.work.result = search rules in
    (c.slot_of.ensures c.args.machine c.args.end c.requires kept).1

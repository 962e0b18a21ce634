use Rattle.std.proofs.Common.{◌≤◌, None}
use Rattle.samr_drive.specs.Driven.{IsSteady, Drove}
use Rattle.samr_drive.proofs.driver.drive.Given as goal

abbrev pub invariant-turns : goal.invariant-turns
invariant-turns g l = record {
  drove : Drove g.P.Program g.P.Mail.Mail g.L.Link l.fn.machine l.fn.end None l.machine l.end l.hand;
  steady : IsSteady g.P.Program g.P.Mail.Mail g.L.Link l.machine l.end l.hand;
  count : g.A.Alarm.count l.fn.alarm ≤ g.A.Alarm.count l.alarm;
}

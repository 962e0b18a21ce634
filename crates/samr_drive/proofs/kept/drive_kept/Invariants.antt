use Rattle.std.proofs.Common.{List, All}
use Rattle.samr_drive.specs.Slots.{Trio}
use Rattle.samr_drive.specs.Standing.{SlotOk, IsFit}
use Rattle.samr_stage.specs.Machine.{State}
use Rattle.samr_drive.proofs.kept.drive_kept.Given as goal

abbrev pub invariant-turns : goal.invariant-turns
invariant-turns g l = record {
  fit : All (IsFit g.P.Program g.P.Mail.Mail g.L.Link) l.slots.items;
  stand : (machines : List (State g.row.P.Denot g.row.P-Mail.Denot)) (ends : List g.row.L.Denot) → Trio (SlotOk g.P.Program g.P.Mail.Mail g.L.Link) machines ends l.fn.slots.items → Trio (SlotOk g.P.Program g.P.Mail.Mail g.L.Link) machines ends l.slots.items;
}

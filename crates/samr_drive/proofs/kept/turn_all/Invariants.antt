use Rattle.std.proofs.Common.{◌≡◌, ◌<◌, ℕ, List, length, get_or, All, false}
use Rattle.samr_drive.specs.Slots.{Trio}
use Rattle.samr_drive.specs.Standing.{SlotOk, IsFit, IsAway}
use Rattle.samr_drive.specs.declared.slot.Slot.{Slot}
use Rattle.samr_stage.specs.Machine.{State}
use Rattle.samr_drive.proofs.kept.turn_all.Given as goal

abbrev pub invariant-slots : goal.invariant-slots
invariant-slots g l = record {
  count : length l.slots.items ≡ length l.fn.slots.items;
  fit : All (IsFit g.P.Program g.P.Mail.Mail g.L.Link) l.slots.items;
  stand : (machines : List (State g.row.P.Denot g.row.P-Mail.Denot)) (ends : List g.row.L.Denot) → Trio (SlotOk g.P.Program g.P.Mail.Mail g.L.Link) machines ends l.fn.slots.items → Trio (SlotOk g.P.Program g.P.Mail.Mail g.L.Link) machines ends l.slots.items;
  away : l.left ≡ false → (k : ℕ) (d : Slot g.row.P.Denot g.row.L.Denot g.row.P-Mail.Denot g.row.P-Mail-Run.Denot) → k < l.place → IsAway g.P.Program g.P.Mail.Mail g.L.Link (get_or l.slots.items k d);
}

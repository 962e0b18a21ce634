use Rattle.std.proofs.Common.{◌≡◌}
use Rattle.std.specs.List.{AllZip}
use Rattle.std.specs.Vec.{vec_capacity}
use Rattle.samr_stage.specs.Machine.{State}
use Rattle.samr_drive.specs.Slots.{IsAnswer}
use Rattle.samr_drive.specs.Standing.{SlotOk}
use Rattle.samr_drive.proofs.ranks.join_all.Given as goal

abbrev pub invariant-slots : goal.invariant-slots
invariant-slots g l = record {
  room : vec_capacity l.answers ≡ vec_capacity l.fn.answers;
  answers : AllZip (λ slot answer. (s : State g.row.P.Denot g.row.P-Mail.Denot) (e : g.row.L.Denot) → SlotOk g.P.Program g.P.Mail.Mail g.L.Link s e slot → IsAnswer g.P.Program g.P.Mail.Mail g.L.Link s e answer) l.yielded l.answers.items;
}

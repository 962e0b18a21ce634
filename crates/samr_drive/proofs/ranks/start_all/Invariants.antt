use Rattle.std.proofs.Common.{◌≡◌, length, All}
use Rattle.std.specs.List.{AllZip}
use Rattle.std.specs.Vec.{vec_capacity}
use Rattle.samr_drive.specs.Standing.{SlotOk, IsFit}
use Rattle.samr_drive.proofs.ranks.start_all.Given as goal

abbrev pub invariant-ranks : goal.invariant-ranks
invariant-ranks g l = record {
  rank : l.rank ≡ length l.yielded;
  room : vec_capacity l.slots ≡ vec_capacity l.fn.slots;
  stand : AllZip (λ pair slot. SlotOk g.P.Program g.P.Mail.Mail g.L.Link pair.0 pair.1 slot) l.yielded l.slots.items;
  fit : All (IsFit g.P.Program g.P.Mail.Mail g.L.Link) l.slots.items;
}

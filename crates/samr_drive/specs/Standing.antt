-- What holds of the slot of a rank that was given a machine and an end.
use Rattle.std.specs.Prelude.{◌≡◌, None}
use Rattle.samr_link.specs.declared.link.Link as wire
use Rattle.samr_stage.specs.declared.mail.Mail as letter
use Rattle.samr_stage.specs.declared.program.Program as actor
use Rattle.samr_stage.specs.Machine.{State}
use Rattle.samr_drive.specs.declared.slot.Slot.{Slot}
use Rattle.samr_drive.specs.declared.slot.Slot.TheVariants.{Running, Kept, Over, Gone}
use Rattle.samr_drive.specs.Driven.{IsSteady, Drove, DrivenTo}

module _ {P M R L : Type 0} (p : actor.Ghosts P M R) (m : letter.Ghosts M R) (w : wire.Ghosts L M R) where
  abbrev pub SlotOk : State P M → L → Slot P L M R → Type 0
  SlotOk s e (Running handle) = (handle.promise.machine.value ≡ s) × (handle.promise.end.value ≡ e)
  SlotOk s e (Kept s' e' hand) = Drove p m w s e None s' e' hand
  SlotOk s e (Over answer e') = DrivenTo p m w s e answer e'
  SlotOk s e Gone = ⊥

  -- what a slot has may be driven
  abbrev pub IsFit : Slot P L M R → Type 0
  IsFit (Running handle) = IsSteady p m w handle.promise.machine.value handle.promise.end.value None
  IsFit (Kept s e hand) = IsSteady p m w s e hand
  IsFit (Over answer e) = Unit {0}
  IsFit Gone = ⊥

  -- it is not with the caller
  abbrev pub IsAway : Slot P L M R → Type 0
  IsAway (Running handle) = Unit {0}
  IsAway (Kept s' e' hand) = ⊥
  IsAway (Over answer e') = Unit {0}
  IsAway Gone = Unit {0}

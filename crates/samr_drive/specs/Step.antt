-- What a step of a driver comes to.
use Rattle.std.specs.Prelude.{◌≡◌, Bool, true, false, Option, Some, None, if◌then◌else◌}
use Rattle.samr_stage.specs.Machine.{State}
use Rattle.samr_stage.specs.declared.turn.Turn.{Turn}
use Rattle.samr_stage.specs.declared.turn.Turn.TheVariants.{Took, Posted, Advanced, Finished, Idle}
use Rattle.samr_drive.specs.declared.step.Step.{Step}
use Rattle.samr_drive.specs.declared.step.Step.TheVariants.{Moved, Waits, Over}

module _ {M : Type 0} where
  -- the letter that is left in hand
  abbrev pub hand_of : Step M → Option M
  hand_of (Moved hand) = hand
  hand_of (Waits hand) = hand
  hand_of Over = None

  -- nothing moved in the machine's turn
  abbrev pub resting : Option M → Bool → Step M
  resting hand took = if took then Moved hand else Waits hand

  -- what a step comes to after the machine's turn, with this letter in hand, where a letter was taken before or not
  abbrev pub after_turn : Turn M → Option M → Bool → Step M
  after_turn Took hand took = Moved hand
  after_turn (Posted x) hand took = Moved (Some x)
  after_turn Advanced hand took = Moved hand
  after_turn Finished None took = Over
  after_turn Finished (Some x) took = resting (Some x) took
  after_turn Idle hand took = resting hand took

  -- where the step says so, the machine has left all its labels
  abbrev pub IsOverIf : {P : Type 0} → Step M → State P M → Type 0
  IsOverIf (Moved hand) s = Unit {0}
  IsOverIf (Waits hand) s = Unit {0}
  IsOverIf Over s = (s.over ≡ true) × (s.failed ≡ false)

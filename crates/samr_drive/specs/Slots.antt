-- What stands for a rank while it runs: a thread, or its machine and its end with the caller, or an answer.
use Rattle.std.specs.Prelude.{◌≡◌, ℕ, ◌<◌, List, length, slice_index_or, Result}
use Rattle.samr_link.specs.declared.link.Link as wire
use Rattle.samr_stage.specs.declared.mail.Mail as letter
use Rattle.samr_stage.specs.declared.program.Program as actor
use Rattle.samr_stage.specs.Machine.{State}
use Rattle.samr_drive.specs.declared.slot.Ran.{Ran}
use Rattle.samr_drive.specs.declared.slot.Ran.TheVariants.{Driven, Back}
use Rattle.samr_drive.specs.declared.stop.Stop.{Stop}
use Rattle.samr_drive.specs.Driven.{DrivenTo}

-- a relation of three lists, place by place
pub record Trio {A B C : Type 0} (R : A → B → C → Type 0) (xs : List A) (ys : List B) (zs : List C) : Type 0 where
  pub second : length ys ≡ length xs
  pub third : length zs ≡ length xs
  pub each : (k : ℕ) (a : A) (b : B) (c : C) → k < length xs → R (slice_index_or xs k a) (slice_index_or ys k b) (slice_index_or zs k c)

-- a relation of two lists, place by place
pub record ArePairs {A B : Type 0} (R : A → B → Type 0) (xs : List A) (ys : List B) : Type 0 where
  pub count : length ys ≡ length xs
  pub each : (k : ℕ) (a : A) (b : B) → k < length xs → R (slice_index_or xs k a) (slice_index_or ys k b)

module _ {P M R L : Type 0} (p : actor.Ghosts P M R) (m : letter.Ghosts M R) (w : wire.Ghosts L M R) where
  -- what a thread that was given a machine and an end answers: it drove them, or hands them back
  abbrev pub KeptBy : State P M → L → Ran P (State P M) L → Type 0
  KeptBy s e (Driven answer e') = DrivenTo p m w s e answer e'
  KeptBy s e (Back s' e') = (s' ≡ s) × (e' ≡ e)

  -- an answer, with the end that was handed back
  abbrev pub IsAnswer : State P M → L → Result P Stop × L → Type 0
  IsAnswer s e answer = DrivenTo p m w s e answer.0 answer.1

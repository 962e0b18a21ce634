-- The events of a world: when each may happen, and what it does.
use Rattle.std.specs.Prelude.{◌≡◌, ℕ, ◌+◌, ◌-◌, ◌<◌, ◌^◌, min, List, [], ◌∷◌, ◌++◌, length, Bool, true, false, Some, None}
use Rattle.std.specs.List.{slice_get, slice_set, remove}
use Rattle.samr_stage.specs.declared.mail.Mail as letter
use Rattle.samr_stage.specs.declared.program.Program as actor
use Rattle.samr_stage.specs.declared.turn.Turn.{Turn as Outcome}
use Rattle.samr_stage.specs.declared.turn.Turn.TheVariants.{Took, Posted, Advanced, Finished, Idle}
use Rattle.samr_stage.specs.Machine.{State, IsSound, IsIdle, Takes, Turned}
use Rattle.samr_world.specs.declared.event.Event.{Event}
use Rattle.samr_world.specs.declared.event.Event.TheVariants.{Turn, Deliver, Repeat, Lose}
use Rattle.samr_world.specs.World.{Shape}

-- the letter that a turn gives out, if it does
abbrev pub posted : {M : Type 0} → Outcome M → List M
posted Took = []
posted (Posted x) = x ∷ []
posted Advanced = []
posted Finished = []
posted Idle = []

module _ {P M R : Type 0} (p : actor.Ghosts P M R) (m : letter.Ghosts M R) where
  -- a machine that has not finished and whose turn with no letter and with room would not be idle
  abbrev pub CanTurn : State P M → Type 0
  CanTurn s = (s.over ≡ false) × ¬ IsIdle p m s true

  -- the events that may happen in a world
  abbrev pub IsEnabled : Shape P M → Event → Type 0
  IsEnabled w (Turn rank) = (s : State P M) × (slice_get w.machines rank ≡ Some s) × CanTurn s
  IsEnabled w (Deliver place) = place < length w.flight
  IsEnabled w (Repeat place) = place < length w.flight
  IsEnabled w (Lose place) = place < length w.flight

  -- a rank's machine takes a turn with no letter and with room, and a letter that it gives out comes last in flight
  pub record Turns (old : Shape P M) (rank : ℕ) (new : Shape P M) : Type 0 where
    pub before : State P M
    pub after : State P M
    pub outcome : Outcome M
    pub here : slice_get old.machines rank ≡ Some before
    pub turned : Turned p m before None true outcome after
    pub sound : IsSound p m after
    pub working : after.failed ≡ false
    pub machines : new.machines ≡ slice_set old.machines rank after
    pub flight : new.flight ≡ old.flight ++ posted outcome
    pub lost : new.lost ≡ old.lost

  -- the letter at a place is taken out of flight, and the machine of its addressee takes it
  pub record Delivers (old : Shape P M) (place : ℕ) (new : Shape P M) : Type 0 where
    pub letter : M
    pub before : State P M
    pub after : State P M
    pub is : slice_get old.flight place ≡ Some letter
    pub here : slice_get old.machines (m.name letter).addressee ≡ Some before
    pub takes : Takes p m before letter after
    pub sound : IsSound p m after
    pub machines : new.machines ≡ slice_set old.machines (m.name letter).addressee after
    pub flight : new.flight ≡ remove old.flight place
    pub lost : new.lost ≡ old.lost

  -- a letter of the run, the name and the body of the one at a place comes last in flight
  pub record Repeats (old : Shape P M) (place : ℕ) (new : Shape P M) : Type 0 where
    pub letter : M
    pub copy : M
    pub is : slice_get old.flight place ≡ Some letter
    pub same_run : m.run copy ≡ m.run letter
    pub same_name : m.name copy ≡ m.name letter
    pub same_body : m.body copy ≡ m.body letter
    pub machines : new.machines ≡ old.machines
    pub flight : new.flight ≡ old.flight ++ copy ∷ []
    pub lost : new.lost ≡ old.lost

  -- the letter at a place is taken out of flight and counted as lost, as far as 64 bits count
  pub record Loses (old : Shape P M) (place : ℕ) (new : Shape P M) : Type 0 where
    pub machines : new.machines ≡ old.machines
    pub flight : new.flight ≡ remove old.flight place
    pub lost : new.lost ≡ min (old.lost + 1) (2 ^ 64 - 1)

  -- what an event that may happen makes of a world
  abbrev pub Happens : Shape P M → Event → Shape P M → Type 0
  Happens old (Turn rank) new = Turns old rank new
  Happens old (Deliver place) new = Delivers old place new
  Happens old (Repeat place) new = Repeats old place new
  Happens old (Lose place) new = Loses old place new

-- a turn or a delivery
abbrev pub IsUsual : Event → Type 0
IsUsual (Turn rank) = Unit {0}
IsUsual (Deliver place) = Unit {0}
IsUsual (Repeat place) = ⊥
IsUsual (Lose place) = ⊥

-- no loss
abbrev pub IsLossless : Event → Type 0
IsLossless (Turn rank) = Unit {0}
IsLossless (Deliver place) = Unit {0}
IsLossless (Repeat place) = Unit {0}
IsLossless (Lose place) = ⊥

-- a repeat
abbrev pub is_repeat : Event → Bool
is_repeat (Turn rank) = false
is_repeat (Deliver place) = false
is_repeat (Repeat place) = true
is_repeat (Lose place) = false

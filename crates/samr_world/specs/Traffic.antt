-- The world of machines and letters that are at work.
use Rattle.std.specs.Prelude.{◌≡◌, ℕ, [], List, All, Bool, false, Some}
use Rattle.std.specs.List.{slice_get}
use Rattle.samr_stage.specs.Machine.{State, IsSound, Begins}
use Rattle.samr_stage.specs.declared.mail.Mail as letter
use Rattle.samr_stage.specs.declared.program.Program as actor
use Rattle.samr_world.specs.declared.event.Event.{Event}
use Rattle.samr_world.specs.declared.traffic.Traffic.{Traffic}
use Rattle.samr_world.specs.World.{Shape}
use Rattle.samr_world.specs.Events.{CanTurn, IsEnabled, IsLossless, is_repeat}

-- the shape of a world at work
abbrev pub shape_of : {P M R : Type 0} → Traffic P M R → Shape P M
shape_of t = record { machines = t.machines.items; flight = t.flight.items; lost = t.lost }

module _ {P M R : Type 0} (p : actor.Ghosts P M R) (m : letter.Ghosts M R) where
  -- a new machine of a program
  pub record IsBegun (program : P) (s : State P M) : Type 0 where
    pub begins : Begins p m program s
    pub sound : IsSound p m s
    pub working : s.failed ≡ false

  -- events that may happen in a world, of which none is a loss and a repeat is one only where repeats are asked for;
  -- there is none only where nothing is in flight and no machine can take a turn
  pub record Offers (w : Shape P M) (repeats : Bool) (events : List Event) : Type 0 where
    pub enabled : All (IsEnabled p m w) events
    pub lossless : All IsLossless events
    pub unrepeated : repeats ≡ false → All (λ e. is_repeat e ≡ false) events
    pub none : events ≡ [] → (w.flight ≡ []) × ((rank : ℕ) (s : State P M) → slice_get w.machines rank ≡ Some s → ¬ CanTurn p m s)

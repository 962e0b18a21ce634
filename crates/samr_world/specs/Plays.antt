-- Plays: lists of events, one after another.
use Rattle.std.specs.Prelude.{◌≡◌, ℕ, ◌+◌, ◌*◌, ◌≤◌, List, [], ◌∷◌, map, All, Bool, true, false, ◌&&◌, if◌then◌else◌, count_by}
use Rattle.samr_stage.specs.declared.mail.Mail as letter
use Rattle.samr_stage.specs.declared.program.Program as actor
use Rattle.samr_world.specs.declared.event.Event.{Event}
use Rattle.samr_world.specs.World.{Shape}
use Rattle.samr_world.specs.Events.{IsEnabled, Happens, IsLossless, is_repeat}
use Rattle.samr_world.specs.Weight.{weight}

-- how many repeats there are among the events that were enabled
abbrev pub repeats_in : List Event → List Bool → ℕ
repeats_in [] enabled = 0
repeats_in (e ∷ events) [] = 0
repeats_in (e ∷ events) (b ∷ enabled) = (if b && is_repeat e then 1 else 0) + repeats_in events enabled

module _ {P M R : Type 0} (p : actor.Ghosts P M R) (m : letter.Ghosts M R) where
  -- each event happens in turn where it is enabled, as the list of truth values says, and else does nothing
  abbrev pub Plays : Shape P M → List Event → List Bool → Shape P M → Type 0
  Plays old [] [] new = new ≡ old
  Plays old [] (b ∷ enabled) new = ⊥
  Plays old (e ∷ events) [] new = ⊥
  Plays old (e ∷ events) (true ∷ enabled) new = (between : Shape P M) × IsEnabled p m old e × Happens p m old e between × Plays between events enabled new
  Plays old (e ∷ events) (false ∷ enabled) new = (¬ IsEnabled p m old e) × Plays old events enabled new

  -- a play of events of which n were enabled: n and the weight left are the weight at first and two for each repeat
  pub record Played (old : Shape P M) (events : List Event) (n : ℕ) (new : Shape P M) : Type 0 where
    pub enabled : List Bool
    pub plays : Plays old events enabled new
    pub count : n ≡ count_by (λ b. b) enabled
    pub bound : n + weight p m new ≡ weight p m old + 2 * repeats_in events enabled

  -- a play of enabled events without a loss and with so many repeats at most
  pub record Runs (old : Shape P M) (repeats : ℕ) (new : Shape P M) : Type 0 where
    pub events : List Event
    pub plays : Plays old events (map (λ _. true) events) new
    pub lossless : All IsLossless events
    pub few_repeats : count_by is_repeat events ≤ repeats

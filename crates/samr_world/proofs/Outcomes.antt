-- What a turn that was not idle, or that took a letter, did.
use Rattle.std.proofs.Common.{◌≡◌, [], ◌∷◌, refl, true, false, ◌⊎◌, inl, inr, Some, None}
use Rattle.samr_stage.specs.declared.mail.Mail as letter
use Rattle.samr_stage.specs.declared.program.Program as actor
use Rattle.samr_stage.specs.declared.turn.Turn.{Turn as Outcome}
use Rattle.samr_stage.specs.declared.turn.Turn.TheVariants.{Took, Posted, Advanced, Finished, Idle}
use Rattle.samr_stage.specs.Machine.{State, Takes, Posts, Advances, Turned}
use Rattle.samr_world.specs.Events.{CanTurn, posted}

pub posts_nothing : {M : Type 0} (outcome : Outcome M) → ((x : M) → outcome ≡ Posted x → ⊥) → posted outcome ≡ []
posts_nothing Took h = refl
posts_nothing (Posted x) h = absurd (h x refl)
posts_nothing Advanced h = refl
posts_nothing Finished h = refl
posts_nothing Idle h = refl

module _ {P M R : Type 0} (p : actor.Ghosts P M R) (m : letter.Ghosts M R) where
  pub takes_it : (before : State P M) (x : M) (outcome : Outcome M) (after : State P M) → Turned p m before (Some x) true outcome after → Takes p m before x after
  takes_it before x Took after h = h
  takes_it before x (Posted y) after h = absurd h
  takes_it before x Advanced after h = absurd h
  takes_it before x Finished after h = absurd h
  takes_it before x Idle after h = absurd h

  -- a turn of a machine that had something to do
  pub record Gives (before : State P M) (outcome : Outcome M) (after : State P M) (x : M) : Type 0 where
    pub going_on : before.over ≡ false
    pub posts : Posts p m before x after
    pub gives : posted outcome ≡ x ∷ []

  pub record GoesOn (before : State P M) (outcome : Outcome M) (after : State P M) : Type 0 where
    pub advances : Advances p m before after
    pub gives : posted outcome ≡ []

  pub does_something : (before : State P M) (outcome : Outcome M) (after : State P M) → CanTurn p m before → Turned p m before None true outcome after
      → GoesOn before outcome after ⊎ ((x : M) × Gives before outcome after x)
  does_something before Took after can h = absurd h
  does_something before (Posted x) after can h = inr (x, record { going_on = h.0; posts = h.2; gives = refl })
  does_something before Advanced after can h = inl (record { advances = h.0; gives = refl })
  does_something before Finished after can (inl over) = absurd (let going_on = can.0 in let finished = over.0 in cc)
  does_something before Finished after can (inr ends) = inl (record { advances = ends.0; gives = refl })
  does_something before Idle after can h = absurd (can.1 h.0)

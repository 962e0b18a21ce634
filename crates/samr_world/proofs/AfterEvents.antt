-- A world stands after each event that happens in it.
use Rattle.std.proofs.Common.{◌≡◌, ℕ, List, [], ◌∷◌, ◌++◌, refl, sym, ap, ◌∙◌, subst, arith, Bool, false, ◌⊎◌, inl, inr, Some, slice_get, set, append-nil}
use Rattle.std.specs.List.{remove}
use Rattle.std.specs.declared.cmp.Ordering.{Ordering}
use Rattle.std.specs.declared.cmp.Ordering.TheVariants.{Less, Equal, Greater}
use Rattle.std.proofs.lemmas.Bool.{cases_Bool}
use Rattle.samr_stage.specs.declared.label.Name.{Name}
use Rattle.samr_stage.specs.declared.mail.Mail as letter
use Rattle.samr_stage.specs.declared.program.Program as actor
use Rattle.samr_stage.specs.Label.{label_cmp}
use Rattle.samr_stage.specs.Course.{IsCourse}
use Rattle.samr_stage.specs.Machine.{State, stored, course_of, label_of, IsSound, Takes}
use Rattle.samr_world.specs.declared.event.Event.{Event}
use Rattle.samr_world.specs.declared.event.Event.TheVariants.{Turn, Deliver, Repeat, Lose}
use Rattle.samr_world.specs.World.{Shape, IsNamed, HasLeft, StandsIn}
use Rattle.samr_world.specs.Events.{CanTurn, IsEnabled, Turns, Delivers, Repeats, Loses, Happens}
use Rattle.samr_world.proofs.NamedLetters.{named_kept, named_stored}
use Rattle.samr_world.proofs.InPlace.{All-get}
use Rattle.samr_world.proofs.Outcomes.{does_something}
use Rattle.samr_world.proofs.Standing.{stands_posted, stands_advanced, stands_taken, stands_repeated, stands_lost}

-- a world is made of its parts
same_shape : {P M : Type 0} (w : Shape P M) (machines : List (State P M)) (flight : List M) (lost : ℕ) → w.machines ≡ machines → w.flight ≡ flight → w.lost ≡ lost
    → ◌≡◌ {A = Shape P M} (record { machines = machines; flight = flight; lost = lost }) w
same_shape w machines flight lost e f h = rw (← e, ← f, ← h) refl

pub same_place : {X : Type 0} (xs : List X) (i : ℕ) (x y : X) → slice_get xs i ≡ Some x → slice_get xs i ≡ Some y → x ≡ y
same_place xs i x y e f = cc

module _ {P M R : Type 0} (p : actor.Ghosts P M R) (m : letter.Ghosts M R) where
  -- the machine of a turn that is enabled had something to do
  pub can_turn_here : (old : Shape P M) (rank : ℕ) (before : State P M) → slice_get old.machines rank ≡ Some before → IsEnabled p m old (Turn rank) → CanTurn p m before
  can_turn_here old rank before here enabled =
      let K : State P M → Type 0 = λ s. CanTurn p m s in
      subst K (same_place old.machines rank enabled.0 before enabled.1 here) enabled.2

  -- what a machine keeps of a letter of its run that was addressed to it, or it has left the letter's label
  pub record Taken (before : State P M) (x : M) (after : State P M) : Type 0 where
    pub kept : List M
    pub is : after ≡ record before { kept = kept }
    pub keeps : (n : Name) → IsNamed m.name n before.kept → IsNamed m.name n kept
    pub kept_or_left : IsNamed m.name (m.name x) kept ⊎ HasLeft p m before (m.name x).label

  pub taken : (before : State P M) (x : M) (after : State P M) → m.run x ≡ p.run before.program → (m.name x).addressee ≡ p.rank_of before.program → Takes p m before x after → Taken before x after
  taken before x after own mine takes = elim (cases_Bool before.over) [
    | inl over ↦ record { kept = before.kept; is = takes.over over; keeps = λ n h. h; kept_or_left = inr (inl over) }
    | inr going_on ↦ by going_on (label_cmp (m.name x).label (label_of p m before.program)) refl
  ]
    where
      by : before.over ≡ false → (o : Ordering) → label_cmp (m.name x).label (label_of p m before.program) ≡ o → Taken before x after
      by going_on Less e = record { kept = before.kept; is = takes.unwanted (λ wanted. wanted.ahead e); keeps = λ n h. h; kept_or_left = inr (inr e) }
      by going_on Equal e = record {
        kept = stored m.name before.kept x;
        is = takes.keeps going_on (record { own = own; mine = mine; ahead = λ less. cc });
        keeps = λ n. named_kept m.name n before.kept x;
        kept_or_left = inl (named_stored m.name before.kept x);
      }
      by going_on Greater e = record {
        kept = stored m.name before.kept x;
        is = takes.keeps going_on (record { own = own; mine = mine; ahead = λ less. cc });
        keeps = λ n. named_kept m.name n before.kept x;
        kept_or_left = inl (named_stored m.name before.kept x);
      }

  module _ (truth : (x : M) → (m.course (m.run x)).letter (m.name x) ≡ Some (m.body x)) (on_course : (program : P) (entered : Bool) → p.stands program entered → IsCourse (course_of p m program)) (r : R) (old new : Shape P M) (stands : StandsIn p m r old) where
    after_turn : (rank : ℕ) → IsEnabled p m old (Turn rank) → Turns p m old rank new → StandsIn p m r new
    after_turn rank enabled turn =
        let at = stands.team rank turn.before turn.here in
        let Standing : Shape P M → Type 0 = StandsIn p m r in
        elim (does_something p m turn.before turn.outcome turn.after (can_turn_here old rank turn.before turn.here enabled) turn.turned) [
          | inl goes ↦
              let same = same_shape new (set old.machines rank turn.after) old.flight old.lost turn.machines (turn.flight ∙ ap (λ (ys : List M). old.flight ++ ys) goes.gives ∙ append-nil old.flight) turn.lost in
              subst Standing same (stands_advanced p m truth on_course r rank turn.before turn.after at goes.advances turn.sound old stands turn.here turn.working)
          | inr posts ↦
              let rest = turn.after.outbox in
              let after : State P M = record turn.before { outbox = rest } in
              let is : turn.after ≡ after = posts.1.posts.rest in
              let IsSoundly : State P M → Type 0 = λ s. IsSound p m s in
              let same = same_shape new (set old.machines rank after) (old.flight ++ posts.0 ∷ []) old.lost (turn.machines ∙ ap (λ (s : State P M). set old.machines rank s) is) (turn.flight ∙ ap (λ (ys : List M). old.flight ++ ys) posts.1.gives) turn.lost in
              subst Standing same (stands_posted p m truth on_course r rank turn.before posts.0 rest at posts.1.going_on posts.1.posts.outbox old stands turn.here (subst IsSoundly is turn.sound))
        ]

    after_delivery : (place : ℕ) → Delivers p m old place new → StandsIn p m r new
    after_delivery place delivery =
        let x = delivery.letter in
        let rank = (m.name x).addressee in
        let before = delivery.before in
        let at = stands.team rank before delivery.here in
        let own = All-get (λ y. m.run y ≡ r) old.flight place x delivery.is stands.own in
        let kept = taken before x delivery.after (own ∙ sym at.same_run) (sym at.same_rank) delivery.takes in
        let after : State P M = record before { kept = kept.kept } in
        let IsSoundly : State P M → Type 0 = λ s. IsSound p m s in
        let Standing : Shape P M → Type 0 = StandsIn p m r in
        let same = same_shape new (set old.machines rank after) (remove old.flight place) old.lost (delivery.machines ∙ ap (λ (s : State P M). set old.machines rank s) kept.is) delivery.flight delivery.lost in
        subst Standing same (stands_taken p m truth on_course r rank before kept.kept x at refl kept.keeps kept.kept_or_left old place stands delivery.here delivery.is (subst IsSoundly kept.is delivery.sound))

    after_repeat : (place : ℕ) → Repeats p m old place new → StandsIn p m r new
    after_repeat place repeats =
        let Standing : Shape P M → Type 0 = StandsIn p m r in
        subst Standing (same_shape new old.machines (old.flight ++ repeats.copy ∷ []) old.lost repeats.machines repeats.flight repeats.lost) (stands_repeated p m r old place repeats.letter repeats.copy stands repeats.is repeats.same_run repeats.same_name)

    after_loss : (place : ℕ) → Loses p m old place new → StandsIn p m r new
    after_loss place loses =
        let Standing : Shape P M → Type 0 = StandsIn p m r in
        let counted = loses.lost in
        subst Standing (same_shape new old.machines (remove old.flight place) new.lost loses.machines loses.flight refl) (stands_lost p m r old place new.lost stands (omega arith))

    -- each event that was enabled leaves a world that stands
    pub stands_after : (event : Event) → IsEnabled p m old event → Happens p m old event new → StandsIn p m r new
    stands_after (Turn rank) enabled happens = after_turn rank enabled happens
    stands_after (Deliver place) enabled happens = after_delivery place happens
    stands_after (Repeat place) enabled happens = after_repeat place happens
    stands_after (Lose place) enabled happens = after_loss place happens

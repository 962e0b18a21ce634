-- Each event but a repeat lowers the weight of a world by one, and a repeat raises it by one.
use Rattle.std.proofs.Common.{◌≡◌, ℕ, ◌+◌, ◌*◌, ◌<◌, ◌≤◌, List, [], ◌∷◌, ◌++◌, length, drop, refl, sym, ap, ◌∙◌, arith, Bool, if◌then◌else◌, inl, inr, Some, slice_get, set, sum_by, append-nil, length-append, length-drop}
use Rattle.std.proofs.lemmas.Bool.{cases_Bool}
use Rattle.std.proofs.lemmas.List.{length-map, drop-drop, drop_more, drop_all}
use Rattle.std.proofs.lemmas.List.Edits.{length-remove}
use Rattle.std.proofs.lemmas.List.Sums.{sum_by-cons, sum_by-set}
use Rattle.std.proofs.lemmas.Option.{slice_get_within, get_or_from_slice_get}
use Rattle.samr_stage.specs.declared.label.Label.{Label}
use Rattle.samr_stage.specs.declared.mail.Mail as letter
use Rattle.samr_stage.specs.declared.program.Program as actor
use Rattle.samr_stage.specs.Course.{Course, IsCourse, sent, label_at}
use Rattle.samr_stage.specs.Machine.{State, course_of, label_of, IsSound, Advances}
use Rattle.samr_stage.proofs.Courses.{label_at_within}
use Rattle.samr_world.specs.declared.event.Event.{Event}
use Rattle.samr_world.specs.declared.event.Event.TheVariants.{Turn, Deliver, Repeat, Lose}
use Rattle.samr_world.specs.World.{Shape, IsAt, StandsIn}
use Rattle.samr_world.specs.Events.{IsEnabled, Turns, Delivers, Repeats, Loses, Happens, is_repeat}
use Rattle.samr_world.specs.Weight.{letters_at, weight_of, weight}
use Rattle.samr_world.proofs.InPlace.{All-get}
use Rattle.samr_world.proofs.Outcomes.{does_something}
use Rattle.samr_world.proofs.Standing.{within_before, within_after, last_place, label_after, going_to}
use Rattle.samr_world.proofs.AfterEvents.{can_turn_here, taken}

-- the sum over a list in which one element was replaced
sum_replaced : {X : Type 0} (f : X → ℕ) (xs : List X) (i : ℕ) (x y : X) → slice_get xs i ≡ Some x → sum_by f (set xs i y) + f x ≡ sum_by f xs + f y
sum_replaced f xs i x y got =
    let within = slice_get_within xs i x got in
    omega (arith, sum_by-set f xs i y x within, ap f (get_or_from_slice_get xs i x x got))

module _ {B : Type 0} (c : Course B) (rank : ℕ) (labels : List Label) where
  -- the labels and the letters left at a place, of which the letters of the label there are still to be given out
  ahead : ℕ → ℕ → ℕ
  ahead place out = length (drop place labels) + 2 * (out + letters_at c rank (drop 1 (drop place labels)))

  ahead_more : (place out : ℕ) → place + 1 < length labels → out ≡ length (sent c (label_at labels (place + 1)) rank) → ahead (place + 1) out + 1 ≡ ahead place 0
  unfolding ahead
  ahead_more place out within same =
      let next = label_at labels (place + 1) in
      let sends : Label → ℕ = λ at. length (sent c at rank) in
      let rest = drop-drop 1 place labels in
      let here = drop_more labels (place + 1) next within ∙ ap (λ (l : Label). l ∷ drop (place + 1 + 1) labels) (label_at_within labels (place + 1) next within) in
      let after = drop-drop 1 (place + 1) labels in
      let split : letters_at c rank (drop 1 (drop place labels)) ≡ length (sent c next rank) + letters_at c rank (drop 1 (drop (place + 1) labels)) =
      ap (λ (ls : List Label). letters_at c rank ls) (rest ∙ here) ∙ sum_by-cons sends next (drop (place + 1 + 1) labels) ∙ ap (λ (ls : List Label). length (sent c next rank) + letters_at c rank ls) (sym after) in
      omega (arith, split, length-drop place labels, length-drop (place + 1) labels)

  ahead_last : (place : ℕ) → place < length labels → length labels ≤ place + 1 → ahead (place + 1) 0 + 1 ≡ ahead place 0
  unfolding ahead
  ahead_last place within last =
      let none = drop_all (place + 1) labels last in
      let rest = ap (λ (ls : List Label). letters_at c rank ls) (drop-drop 1 place labels ∙ none) in
      let later = ap (λ (ls : List Label). letters_at c rank (drop 1 ls)) none in
      omega (arith, rest, later, length-drop place labels, length-drop (place + 1) labels)

module _ {P M R : Type 0} (p : actor.Ghosts P M R) (m : letter.Ghosts M R) where
  weight_at : (r : R) (rank place : ℕ) (s : State P M) → p.run s.program ≡ r → p.rank_of s.program ≡ rank → p.place s.program ≡ place → weight_of p m s ≡ ahead (m.course r) rank ((m.course r).labels rank) place (length s.outbox)
  unfolding ahead
  weight_at r rank place s run here at =
      let F : R → ℕ → ℕ → ℕ = λ q i k. ahead (m.course q) i ((m.course q).labels i) k (length s.outbox) in
      ap (λ q. F q (p.rank_of s.program) (p.place s.program)) run ∙ ap (λ i. F r i (p.place s.program)) here ∙ ap (F r rank) at

  module _ (truth : (x : M) → (m.course (m.run x)).letter (m.name x) ≡ Some (m.body x)) (on_course : (program : P) (entered : Bool) → p.stands program entered → IsCourse (course_of p m program)) where
    -- a machine that goes on to the next label
    weight_goes_on : (r : R) (rank : ℕ) (before after : State P M) → IsAt p m r rank before → Advances p m before after → IsSound p m after → weight_of p m after + 1 ≡ weight_of p m before
    weight_goes_on r rank before after at advances sound =
        let c = m.course r in
        let labels = c.labels rank in
        let place = p.place before.program in
        let to = going_to p m truth on_course r rank before after at advances sound in
        let heavy = weight_at r rank place before at.same_run at.same_rank refl ∙ ap (λ (xs : List M). ahead c rank labels place (length xs)) advances.empty in
        let light = weight_at r rank (place + 1) after to.0 to.1 advances.next in
        elim (cases_Bool after.over) [
          | inl over ↦
              let none = ap (λ (xs : List M). ahead c rank labels (place + 1) (length xs)) (sound.nothing_over over).0 in
              let step = ahead_last c rank labels place (within_before p m truth on_course r rank before after at advances sound) (last_place p m truth on_course r rank before after at advances sound over) in
              omega (arith, heavy, light, none, step)
          | inr going_on ↦
              let names = advances.outbox going_on ∙ ap (λ (q : R). sent (m.course q) (label_of p m after.program) (p.rank_of after.program)) to.0 ∙ ap (λ (i : ℕ). sent c (label_of p m after.program) i) to.1 ∙ ap (λ (l : Label). sent c l rank) (label_after p m truth on_course r rank before after at advances sound) in
              let count = sym (length-map after.outbox m.name) ∙ ap length names in
              let step = ahead_more c rank labels place (length after.outbox) (within_after p m truth on_course r rank before after at advances sound going_on) count in
              omega (arith, heavy, light, step)
        ]

    module _ (r : R) (old new : Shape P M) (stands : StandsIn p m r old) where
      weight_turn : (rank : ℕ) → IsEnabled p m old (Turn rank) → Turns p m old rank new → 1 + weight p m new ≡ weight p m old
      weight_turn rank enabled turn =
          let at = stands.team rank turn.before turn.here in
          let machines = ap (λ (ss : List (State P M)). sum_by (weight_of p m) ss) turn.machines in
          let moved = sum_replaced (weight_of p m) old.machines rank turn.before turn.after turn.here in
          elim (does_something p m turn.before turn.outcome turn.after (can_turn_here p m old rank turn.before turn.here enabled) turn.turned) [
            | inl goes ↦
                let flight = ap length (turn.flight ∙ ap (λ (ys : List M). old.flight ++ ys) goes.gives ∙ append-nil old.flight) in
                let step = weight_goes_on r rank turn.before turn.after at goes.advances turn.sound in
                omega (arith, machines, moved, flight, step)
            | inr posts ↦
                let flight = ap length (turn.flight ∙ ap (λ (ys : List M). old.flight ++ ys) posts.1.gives) ∙ length-append old.flight (posts.0 ∷ []) in
                let after : State P M = record turn.before { outbox = turn.after.outbox } in
                let is = ap (weight_of p m) posts.1.posts.rest in
                let front = ap length posts.1.posts.outbox in
                omega (arith, machines, moved, flight, is, front)
          ]

      weight_delivery : (place : ℕ) → Delivers p m old place new → 1 + weight p m new ≡ weight p m old
      weight_delivery place delivery =
          let rank = (m.name delivery.letter).addressee in
          let before = delivery.before in
          let at = stands.team rank before delivery.here in
          let own = All-get (λ y. m.run y ≡ r) old.flight place delivery.letter delivery.is stands.own in
          let kept = taken p m before delivery.letter delivery.after (own ∙ sym at.same_run) (sym at.same_rank) delivery.takes in
          let same = ap (weight_of p m) kept.is in
          let machines = ap (λ (ss : List (State P M)). sum_by (weight_of p m) ss) delivery.machines in
          let moved = sum_replaced (weight_of p m) old.machines rank before delivery.after delivery.here in
          let flight = ap length delivery.flight in
          let within = slice_get_within old.flight place delivery.letter delivery.is in
          omega (arith, same, machines, moved, flight, length-remove old.flight place within)

      weight_repeat : (place : ℕ) → Repeats p m old place new → 1 + weight p m new ≡ weight p m old + 2
      weight_repeat place repeats =
          let machines = ap (λ (ss : List (State P M)). sum_by (weight_of p m) ss) repeats.machines in
          let flight = ap length repeats.flight ∙ length-append old.flight (repeats.copy ∷ []) in
          omega (arith, machines, flight)

      weight_loss : (place : ℕ) → place < length old.flight → Loses p m old place new → 1 + weight p m new ≡ weight p m old
      weight_loss place within loses =
          let machines = ap (λ (ss : List (State P M)). sum_by (weight_of p m) ss) loses.machines in
          let flight = ap length loses.flight in
          omega (arith, machines, flight, length-remove old.flight place within)

      pub weight_after : (event : Event) → IsEnabled p m old event → Happens p m old event new → 1 + weight p m new ≡ weight p m old + 2 * (if is_repeat event then 1 else 0)
      weight_after (Turn rank) enabled happens = let step = weight_turn rank enabled happens in omega arith
      weight_after (Deliver place) enabled happens = let step = weight_delivery place happens in omega arith
      weight_after (Repeat place) enabled happens = let step = weight_repeat place happens in omega arith
      weight_after (Lose place) enabled happens = let step = weight_loss place enabled happens in omega arith

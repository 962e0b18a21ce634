-- Plays of one more event.
use Rattle.std.proofs.Common.{◌≡◌, ℕ, ◌+◌, ◌<◌, ◌≤◌, List, [], ◌∷◌, ◌++◌, length, take, get_or, map, refl, sym, subst, arith, Bool, true, false, ◌&&◌, if◌then◌else◌, ◌↔◌, IsTrue, Some}
use Rattle.std.proofs.lemmas.Bool.{false≢true}
use Rattle.std.proofs.lemmas.List.{take_more, map-append}
use Rattle.std.proofs.lemmas.List.Elements.{All-nil, All-push}
use Rattle.std.proofs.lemmas.List.Sums.{sum_by_push}
use Rattle.samr_stage.specs.declared.mail.Mail as letter
use Rattle.samr_stage.specs.declared.program.Program as actor
use Rattle.samr_stage.specs.Course.{IsCourse}
use Rattle.samr_stage.specs.Machine.{course_of}
use Rattle.samr_world.specs.declared.event.Event.{Event}
use Rattle.samr_world.specs.World.{Shape, StandsIn, Stands, Keeps}
use Rattle.samr_world.specs.Events.{IsEnabled, Happens, IsLossless, is_repeat}
use Rattle.samr_world.specs.Plays.{repeats_in, Plays, Played, Runs}
use Rattle.samr_world.proofs.AfterEvents.{stands_after}
use Rattle.samr_world.proofs.Weights.{weight_after}

module _ {P M R : Type 0} (p : actor.Ghosts P M R) (m : letter.Ghosts M R) where
  -- one more event that happens, or one that is not enabled
  plays_more : (old between new : Shape P M) (events : List Event) (enabled : List Bool) (e : Event) → Plays p m old events enabled between → IsEnabled p m between e → Happens p m between e new
      → Plays p m old (events ++ e ∷ []) (enabled ++ true ∷ []) new
  plays_more old between new [] [] e plays can happens =
      let K : Shape P M → Type 0 = λ w. Plays p m w (e ∷ []) (true ∷ []) new in
      let one : Plays p m between (e ∷ []) (true ∷ []) new = (new, can, happens, refl) in
      subst K plays one
  plays_more old between new [] (b ∷ enabled) e plays can happens = absurd plays
  plays_more old between new (x ∷ events) [] e plays can happens = absurd plays
  plays_more old between new (x ∷ events) (true ∷ enabled) e plays can happens =
      (plays.0, plays.1, plays.2, plays_more plays.0 between new events enabled e plays.3 can happens)
  plays_more old between new (x ∷ events) (false ∷ enabled) e plays can happens =
      (plays.0, plays_more old between new events enabled e plays.1 can happens)

  plays_skip : (old between : Shape P M) (events : List Event) (enabled : List Bool) (e : Event) → Plays p m old events enabled between → ¬ IsEnabled p m between e
      → Plays p m old (events ++ e ∷ []) (enabled ++ false ∷ []) between
  plays_skip old between [] [] e plays not =
      let K : Shape P M → Type 0 = λ w. Plays p m w (e ∷ []) (false ∷ []) between in
      let one : Plays p m between (e ∷ []) (false ∷ []) between = (not, refl) in
      subst K plays one
  plays_skip old between [] (b ∷ enabled) e plays not = absurd plays
  plays_skip old between (x ∷ events) [] e plays not = absurd plays
  plays_skip old between (x ∷ events) (true ∷ enabled) e plays not =
      (plays.0, plays.1, plays.2, plays_skip plays.0 between events enabled e plays.3 not)
  plays_skip old between (x ∷ events) (false ∷ enabled) e plays not =
      (plays.0, plays_skip old between events enabled e plays.1 not)

  repeats_more : (old new : Shape P M) (events : List Event) (enabled : List Bool) (e : Event) (b : Bool) → Plays p m old events enabled new
      → repeats_in (events ++ e ∷ []) (enabled ++ b ∷ []) ≡ repeats_in events enabled + (if b && is_repeat e then 1 else 0)
  repeats_more old new [] [] e b plays = omega arith
  repeats_more old new [] (c ∷ enabled) e b plays = absurd plays
  repeats_more old new (x ∷ events) [] e b plays = absurd plays
  repeats_more old new (x ∷ events) (true ∷ enabled) e b plays = let rest = repeats_more plays.0 new events enabled e b plays.3 in omega arith
  repeats_more old new (x ∷ events) (false ∷ enabled) e b plays = let rest = repeats_more old new events enabled e b plays.1 in omega arith

  pub played_none : (old : Shape P M) → Played p m old [] 0 old
  played_none old = record { enabled = []; plays = refl; count = refl; bound = omega arith }

  pub runs_none : (old : Shape P M) → Runs p m old 0 old
  runs_none old = record { events = []; plays = refl; lossless = All-nil IsLossless; few_repeats = omega arith }

  module _ (truth : (x : M) → (m.course (m.run x)).letter (m.name x) ≡ Some (m.body x)) (on_course : (program : P) (entered : Bool) → p.stands program entered → IsCourse (course_of p m program)) where
    -- what an event leaves stands, as what was before it did
    pub keeps_after : (old new : Shape P M) (event : Event) (b : Bool) → (IsTrue b ↔ IsEnabled p m old event) → (b ≡ false → new ≡ old) → (b ≡ true → Happens p m old event new) → Keeps p m old new
    keeps_after old new event true enabled same happens = λ r stands. stands_after p m truth on_course r old new stands event (enabled.0 refl) (happens refl)
    keeps_after old new event false enabled same happens = λ r stands. (let K : Shape P M → Type 0 = StandsIn p m r in subst K (sym (same refl)) stands)

    pub played_more : (old between new : Shape P M) (events : List Event) (i n : ℕ) (d : Event) → i < length events → Stands p m between → Played p m old (take i events) n between
        → IsEnabled p m between (get_or events i d) → Happens p m between (get_or events i d) new → Played p m old (take (i + 1) events) (n + 1) new
    played_more old between new events i n d within stands played can happens =
        let e = get_or events i d in
        let front = take i events in
        let K : List Event → Type 0 = λ es. Played p m old es (n + 1) new in
        let step = weight_after p m truth on_course stands.0 between new stands.1 e can happens in
        let repeats = repeats_more old between front played.enabled e true played.plays in
        let bound = played.bound in
        let count = played.count in
        let one : Played p m old (front ++ e ∷ []) (n + 1) new = record {
          enabled = played.enabled ++ true ∷ [];
          plays = plays_more old between new front played.enabled e played.plays can happens;
          count = omega (arith, sum_by_push (λ (b : Bool). if b then 1 else 0) played.enabled true);
          bound = omega (arith, step, repeats);
        } in
        subst K (sym (take_more events i d within)) one

    pub played_skip : (old between : Shape P M) (events : List Event) (i n : ℕ) (d : Event) → i < length events → Played p m old (take i events) n between
        → ¬ IsEnabled p m between (get_or events i d) → Played p m old (take (i + 1) events) n between
    played_skip old between events i n d within played not =
        let e = get_or events i d in
        let front = take i events in
        let K : List Event → Type 0 = λ es. Played p m old es n between in
        let repeats = repeats_more old between front played.enabled e false played.plays in
        let bound = played.bound in
        let count = played.count in
        let one : Played p m old (front ++ e ∷ []) n between = record {
          enabled = played.enabled ++ false ∷ [];
          plays = plays_skip old between front played.enabled e played.plays not;
          count = omega (arith, sum_by_push (λ (b : Bool). if b then 1 else 0) played.enabled false);
          bound = omega (arith, repeats);
        } in
        subst K (sym (take_more events i d within)) one

  -- one more event of a run
  pub runs_more : (old between new : Shape P M) (n k : ℕ) (e : Event) → Runs p m old n between → IsEnabled p m between e → Happens p m between e new → IsLossless e
      → n + (if is_repeat e then 1 else 0) ≤ k → Runs p m old k new
  runs_more old between new n k e runs can happens lossless few =
      let K : List Bool → Type 0 = λ bs. Plays p m old (runs.events ++ e ∷ []) bs new in
      let some = runs.few_repeats in
      record {
        events = runs.events ++ e ∷ [];
        plays = subst K (sym (map-append (λ (x : Event). true) runs.events (e ∷ []))) (plays_more old between new runs.events (map (λ _. true) runs.events) e runs.plays can happens);
        lossless = All-push IsLossless runs.events e runs.lossless lossless;
        few_repeats = omega (arith, sum_by_push (λ (x : Event). if is_repeat x then 1 else 0) runs.events e);
      }

  module _ (truth : (x : M) → (m.course (m.run x)).letter (m.name x) ≡ Some (m.body x)) (on_course : (program : P) (entered : Bool) → p.stands program entered → IsCourse (course_of p m program)) where
    -- one more event of a play, whether it was enabled or not
    pub played_after : (old between new : Shape P M) (events : List Event) (i n k : ℕ) (d : Event) (b : Bool) → i < length events → Stands p m between → Played p m old (take i events) n between
        → (IsTrue b ↔ IsEnabled p m between (get_or events i d)) → (b ≡ false → new ≡ between) → (b ≡ true → Happens p m between (get_or events i d) new) → k ≡ (if b then 1 else 0)
        → Played p m old (take (i + 1) events) (n + k) new
    played_after old between new events i n k d true within stands played enabled same happens one =
        let K : ℕ → Type 0 = λ j. Played p m old (take (i + 1) events) (n + j) new in
        subst K (sym one) (played_more truth on_course old between new events i n d within stands played (enabled.0 refl) (happens refl))
    played_after old between new events i n k d false within stands played enabled same happens none =
        let K : ℕ → Shape P M → Type 0 = λ j w. Played p m old (take (i + 1) events) j w in
        let count : n ≡ n + k = omega (arith, none) in
        subst (λ j. K j new) count (subst (K n) (sym (same refl)) (played_skip truth on_course old between events i n d within played (λ can. false≢true (enabled.1 can))))

-- The events that are offered in a world, and what one of them leaves of a run.
use Rattle.std.proofs.Common.{◌≡◌, ℕ, ◌+◌, ◌-◌, ◌*◌, ◌<◌, ◌≤◌, List, [], ◌++◌, length, map, refl, sym, ap, ◌∙◌, subst, arith, Bool, true, false, if◌then◌else◌, inl, inr, All, Some, slice_get, get_or, ltb, length-append}
use Rattle.std.specs.List.{range_with_len}
use Rattle.std.proofs.lemmas.Bool.{cases_lt, false≢true, le-ltb}
use Rattle.std.proofs.lemmas.List.{length-map, nil_from_length}
use Rattle.std.proofs.lemmas.List.Elements.{All-append, All-map, All-weaker}
use Rattle.std.proofs.lemmas.List.FromFn.{length-range_with_len, get_or-range_with_len}
use Rattle.std.proofs.lemmas.Option.{slice_get_within}
use Rattle.samr_stage.specs.declared.mail.Mail as letter
use Rattle.samr_stage.specs.declared.program.Program as actor
use Rattle.samr_stage.specs.Course.{IsCourse}
use Rattle.samr_stage.specs.Machine.{State, course_of}
use Rattle.samr_world.specs.declared.event.Event.{Event}
use Rattle.samr_world.specs.declared.event.Event.TheVariants.{Turn, Deliver, Repeat, Lose}
use Rattle.samr_world.specs.World.{Shape, Stands}
use Rattle.samr_world.specs.Events.{CanTurn, IsEnabled, Happens, IsUsual, IsLossless, is_repeat}
use Rattle.samr_world.specs.Weight.{weight}
use Rattle.samr_world.specs.Plays.{Runs}
use Rattle.samr_world.specs.Traffic.{Offers}
use Rattle.samr_world.proofs.InPlace.{All-read}
use Rattle.samr_world.proofs.PlayedEvents.{runs_more}
use Rattle.samr_world.proofs.Weights.{weight_after}

-- the numbers below n are below n
range_below : (n : ℕ) → All (λ k. k < n) (range_with_len 0 n)
range_below n = λ k d within. let below : k < n = omega (arith, length-range_with_len 0 n) in omega (arith, get_or-range_with_len 0 n k d below)

usual_lossless : (e : Event) → IsUsual e → IsLossless e
usual_lossless (Turn rank) h = tt
usual_lossless (Deliver place) h = tt
usual_lossless (Repeat place) h = absurd h
usual_lossless (Lose place) h = absurd h

usual_no_repeat : (e : Event) → IsUsual e → is_repeat e ≡ false
usual_no_repeat (Turn rank) h = refl
usual_no_repeat (Deliver place) h = refl
usual_no_repeat (Repeat place) h = absurd h
usual_no_repeat (Lose place) h = absurd h

module _ {P M R : Type 0} (p : actor.Ghosts P M R) (m : letter.Ghosts M R) where
  -- the turns and the deliveries
  pub offers_usual : (w : Shape P M) (turns : List Event) (n : ℕ) → n ≡ length w.flight → All IsUsual turns → All (IsEnabled p m w) turns
      → (turns ≡ [] → (rank : ℕ) (s : State P M) → slice_get w.machines rank ≡ Some s → ¬ CanTurn p m s) → Offers p m w false (turns ++ map (λ place. Deliver place) (range_with_len 0 n))
  offers_usual w turns n count usual enabled none =
      let places = range_with_len 0 n in
      let deliver : ℕ → Event = λ place. Deliver place in
      let deliveries = map deliver places in
      let below : All (λ k. k < length w.flight) places = let K : ℕ → Type 0 = λ b. All (λ k. k < b) places in subst K count (range_below n) in
      let all_usual = All-append IsUsual turns deliveries usual (All-map IsUsual deliver places (λ k d within. tt)) in
      record {
        enabled = All-append (IsEnabled p m w) turns deliveries enabled (All-map (IsEnabled p m w) deliver places below);
        lossless = All-weaker IsUsual IsLossless usual_lossless (turns ++ deliveries) all_usual;
        unrepeated = λ _. All-weaker IsUsual (λ e. is_repeat e ≡ false) usual_no_repeat (turns ++ deliveries) all_usual;
        none = λ empty.
            let parts = length-append turns deliveries in
            let zeroth = ap length empty in
            let many = length-map places deliver in
            let range = length-range_with_len 0 n in
            (nil_from_length w.flight (omega arith), none (nil_from_length turns (omega arith)));
      }

  -- and the repeats
  pub offers_repeats : (w : Shape P M) (events : List Event) (n : ℕ) → n ≡ length w.flight → Offers p m w false events → Offers p m w true (events ++ map (λ place. Repeat place) (range_with_len 0 n))
  offers_repeats w events n count offers =
      let places = range_with_len 0 n in
      let again : ℕ → Event = λ place. Repeat place in
      let repeats = map again places in
      let below : All (λ k. k < length w.flight) places = let K : ℕ → Type 0 = λ b. All (λ k. k < b) places in subst K count (range_below n) in
      record {
        enabled = All-append (IsEnabled p m w) events repeats offers.enabled (All-map (IsEnabled p m w) again places below);
        lossless = All-append IsLossless events repeats offers.lossless (All-map IsLossless again places (λ k d within. tt));
        unrepeated = λ never. absurd (false≢true (sym never));
        none = λ empty.
            let parts = length-append events repeats in
            let zeroth = ap length empty in
            offers.none (nil_from_length events (omega arith));
      }

  -- a machine that stands can take a turn where its rank's turn is enabled
  pub turn_enabled : (w : Shape P M) → Stands p m w → (rank k : ℕ) (s : State P M) → slice_get w.machines k ≡ Some s → rank ≡ p.rank_of s.program → CanTurn p m s → IsEnabled p m w (Turn rank)
  turn_enabled w stands rank k s got same can =
      let at = stands.1.team k s got in
      (s, ap (slice_get w.machines) (same ∙ at.same_rank) ∙ got, can)

  -- machines below an index of which none can take a turn, and the one at it
  pub stuck_more : (machines : List (State P M)) (i : ℕ) (x : State P M) → slice_get machines i ≡ Some x → ¬ CanTurn p m x
      → ((rank : ℕ) (s : State P M) → rank < i → slice_get machines rank ≡ Some s → ¬ CanTurn p m s)
      → (rank : ℕ) (s : State P M) → rank < i + 1 → slice_get machines rank ≡ Some s → ¬ CanTurn p m s
  stuck_more machines i x here stuck below rank s within got can = elim (cases_lt rank i) [
    | inl earlier ↦ below rank s earlier got can
    | inr from ↦
        let same : rank ≡ i = omega arith in
        let there = ap (slice_get machines) (sym same) ∙ got in
        let is : s ≡ x = cc in
        let K : State P M → Type 0 = λ t. CanTurn p m t in
        stuck (subst K is can)
  ]

  pub stuck_all : (machines : List (State P M)) (i : ℕ) → length machines ≤ i
      → ((rank : ℕ) (s : State P M) → rank < i → slice_get machines rank ≡ Some s → ¬ CanTurn p m s)
      → (rank : ℕ) (s : State P M) → slice_get machines rank ≡ Some s → ¬ CanTurn p m s
  stuck_all machines i all below rank s got = let within = slice_get_within machines rank s got in below rank s (omega arith) got

  -- an event that is no loss loses nothing
  pub none_lost_after : (old new : Shape P M) (e : Event) → IsLossless e → Happens p m old e new → new.lost ≡ old.lost
  none_lost_after old new (Turn rank) lossless happens = happens.lost
  none_lost_after old new (Deliver place) lossless happens = happens.lost
  none_lost_after old new (Repeat place) lossless happens = happens.lost
  none_lost_after old new (Lose place) lossless happens = absurd lossless

  -- an event of a run that has so many repeats left
  module _ (truth : (x : M) → (m.course (m.run x)).letter (m.name x) ≡ Some (m.body x)) (on_course : (program : P) (entered : Bool) → p.stands program entered → IsCourse (course_of p m program))
      (between new : Shape P M) (e : Event) (left : ℕ) (can : IsEnabled p m between e) (happens : Happens p m between e new) (enough : (if is_repeat e then 1 else 0) ≤ left) where
    pub run_shorter : Stands p m between → weight p m new + 2 * (left - (if is_repeat e then 1 else 0)) < weight p m between + 2 * left
    run_shorter stands = let step = weight_after p m truth on_course stands.0 between new stands.1 e can happens in omega (arith, step, enough)

    pub run_longer : (old : Shape P M) (repeats : ℕ) → left ≤ repeats → IsLossless e → Runs p m old (repeats - left) between → Runs p m old (repeats - (left - (if is_repeat e then 1 else 0))) new
    run_longer old repeats few lossless runs = runs_more p m old between new (repeats - left) (repeats - (left - (if is_repeat e then 1 else 0))) e runs can happens lossless (omega (arith, enough))

  -- a repeat is offered only where one is left
  pub repeat_left : (w : Shape P M) (events : List Event) (left i n : ℕ) (e : Event) → Offers p m w (ltb 0 left) events → i < n → n ≡ length events → e ≡ get_or events i e → (if is_repeat e then 1 else 0) ≤ left
  repeat_left w events left i n e offers below count read = elim (cases_lt 0 left) [
    | inl some ↦ at_most_one (is_repeat e) left some
    | inr none ↦ no_repeat (is_repeat e) left (All-read (λ x. is_repeat x ≡ false) events i n e below count read (offers.unrepeated (le-ltb 0 left none)))
  ]
    where
      at_most_one : (b : Bool) (k : ℕ) → 0 < k → (if b then 1 else 0) ≤ k
      at_most_one true k some = omega arith
      at_most_one false k some = omega arith

      no_repeat : (b : Bool) (k : ℕ) → b ≡ false → (if b then 1 else 0) ≤ k
      no_repeat b k none = rw none (omega arith)

-- What a machine keeps true from turn to turn.
use Rattle.std.proofs.Common.{◌≡◌, ℕ, ◌+◌, ◌≤◌, List, [], ◌∷◌, ◌++◌, length, map, filter, sym, ap, ◌∙◌, subst, Bool, true, false, All, Contains, IsTrue, Some, is_some, append_assoc}
use Rattle.std.specs.Ordering.{is_eq, is_ne}
use Rattle.std.specs.declared.cmp.Ordering.TheVariants.{Less}
use Rattle.std.proofs.lemmas.Bool.{false≢true}
use Rattle.std.proofs.lemmas.List.Elements.{All-filter, All-weaker, All-rest, filter_passes}
use Rattle.std.proofs.lemmas.List.Kept.{AllPairs-filter}
use Rattle.samr_stage.specs.declared.label.Label.{Label}
use Rattle.samr_stage.specs.declared.mail.Mail as letter
use Rattle.samr_stage.specs.declared.program.Program as actor
use Rattle.samr_stage.specs.Label.{label_cmp, name_cmp}
use Rattle.samr_stage.specs.Course.{IsCourse, sent, label_at}
use Rattle.samr_stage.specs.Held.{IsHeld, Stays}
use Rattle.samr_stage.specs.Machine.{State, of_label, of_others, stored, course_of, label_of, IsDone, IsWanted, KeepsWanted, IsSound}
use Rattle.samr_stage.specs.LabelLaws.{label_tied}
use Rattle.samr_stage.proofs.Orders.{equal_from_eq, greater_from_ne}
use Rattle.samr_stage.proofs.Courses.{no_sooner}
use Rattle.samr_stage.proofs.KeptLetters.{All-stored, rising_stored}

module _ {P M R : Type 0} (p : actor.Ghosts P M R) (m : letter.Ghosts M R) where
  -- the label at a place, of equal runs, ranks and places
  pub label_along : (r s : R) (i j k l : ℕ) → r ≡ s → i ≡ j → k ≡ l → label_at ((m.course r).labels i) k ≡ label_at ((m.course s).labels j) l
  label_along r s i j k l run rank place = rw (run, rank, place)

  -- what holds of a run, a rank and a place holds of those that equal them
  pub at_same : (F : R → ℕ → ℕ → Type 0) (old new : P) → Stays p.run p.rank_of p.place old new → F (p.run old) (p.rank_of old) (p.place old) → F (p.run new) (p.rank_of new) (p.place new)
  at_same F old new stays h = rw (stays.same_run, stays.same_rank, stays.same_place) h

  -- the kept letters of its label are as its program takes them
  pub held_here : (program : P) (kept : List M) → KeepsWanted p m program kept → IsHeld m.run m.name (p.run program) (label_of p m program) (p.rank_of program) (of_label m.name (label_of p m program) kept)
  held_here program kept keeps =
      let here : M → Bool = λ x. is_eq (label_cmp (m.name x).label (label_of p m program)) in
      let wanted = All-filter here (IsWanted p m program) kept keeps.wanted in
      record {
        own = All-weaker (IsWanted p m program) (λ x. m.run x ≡ p.run program) (λ x h. h.own) (filter here kept) wanted;
        here = All-weaker (λ x. here x ≡ true) (λ x. (m.name x).label ≡ label_of p m program) (λ x h. label_tied (m.name x).label (label_of p m program) (equal_from_eq _ h)) (filter here kept) (filter_passes here kept);
        mine = All-weaker (IsWanted p m program) (λ x. (m.name x).addressee ≡ p.rank_of program) (λ x h. h.mine) (filter here kept) wanted;
        rising = AllPairs-filter (λ x y. name_cmp (m.name x) (m.name y) ≡ Less) here kept keeps.rising;
      }

  pub held_front : (program : P) (kept held : List M) (at : Label) → KeepsWanted p m program kept → at ≡ label_of p m program → held ≡ of_label m.name at kept
      → IsHeld m.run m.name (p.run program) (label_of p m program) (p.rank_of program) held
  held_front program kept held at keeps here front =
      let K : List M → Type 0 = λ xs. IsHeld m.run m.name (p.run program) (label_of p m program) (p.rank_of program) xs in
      subst K (sym (front ∙ ap (λ l. of_label m.name l kept) here)) (held_here program kept keeps)

  -- one more letter that the program wants
  pub keeps_stored : (program : P) (kept : List M) (x : M) → KeepsWanted p m program kept → IsWanted p m program x → KeepsWanted p m program (stored m.name kept x)
  keeps_stored program kept x keeps wanted = record {
    wanted = All-stored m.name (IsWanted p m program) kept x keeps.wanted wanted;
    rising = rising_stored m.name kept x keeps.rising;
  }

  pub sound_stored : (s : State P M) (x : M) → IsSound p m s → s.over ≡ false → IsWanted p m s.program x → IsSound p m (record s { kept = stored m.name s.kept x })
  sound_stored s x sound going_on wanted = record {
    stands = sound.stands;
    over = sound.over;
    outbox_own = sound.outbox_own;
    outbox_rest = sound.outbox_rest;
    keeps = keeps_stored s.program s.kept x sound.keeps wanted;
    nothing_over = λ over. absurd (false≢true (sym going_on ∙ over));
  }

  -- one letter less to give out
  pub sound_posted : (s : State P M) (x : M) (rest : List M) → IsSound p m s → s.over ≡ false → s.outbox ≡ x ∷ rest → IsSound p m (record s { outbox = rest })
  sound_posted s x rest sound going_on front = record {
    stands = sound.stands;
    over = sound.over;
    outbox_own = All-rest (λ y. m.run y ≡ p.run s.program) x rest s.outbox front sound.outbox_own;
    outbox_rest = λ h.
        let given = sound.outbox_rest h in
        (given.0 ++ m.name x ∷ [], append_assoc given.0 (m.name x ∷ []) (map m.name rest) ∙ ap (λ ys. given.0 ++ map m.name ys) (sym front) ∙ given.1);
    keeps = sound.keeps;
    nothing_over = λ over. absurd (false≢true (sym going_on ∙ over));
  }

  -- a program that has entered its label, with the letters that it has for others there
  pub sound_entered : (program : P) (outbox kept : List M) → p.stands program true → ¬ IsDone p m program → All (λ x. m.run x ≡ p.run program) outbox
      → map m.name outbox ≡ sent (course_of p m program) (label_of p m program) (p.rank_of program) → KeepsWanted p m program kept
      → IsSound p m (record { program = program; outbox = outbox; kept = kept; over = false; failed = false })
  sound_entered program outbox kept stands going_on own names keeps = record {
    stands = stands;
    over = (λ h. absurd (false≢true h), λ h. absurd (going_on h));
    outbox_own = own;
    outbox_rest = λ h. ([], names);
    keeps = keeps;
    nothing_over = λ h. absurd (false≢true h);
  }

  module _ (truth : (x : M) → (m.course (m.run x)).letter (m.name x) ≡ Some (m.body x)) (on_course : (program : P) (entered : Bool) → p.stands program entered → IsCourse (course_of p m program)) where
    -- a letter that a program wants is of a label that its rank visits
    visited : (program : P) (x : M) → p.stands program true → IsWanted p m program x → Contains ((course_of p m program).labels (p.rank_of program)) (m.name x).label
    visited program x stands wanted =
        let HasLetter : R → Type 0 = λ r. IsTrue (is_some ((m.course r).letter (m.name x))) in
        let Visits : ℕ → Type 0 = λ rank. Contains ((course_of p m program).labels rank) (m.name x).label in
        let there = subst HasLetter wanted.own (ap is_some (truth x)) in
        subst Visits wanted.mine ((on_course program true stands).addressee (m.name x) there).1

    -- what is not of the label that a program leaves it wants at the next one
    pub keeps_next : (old new : P) (kept : List M) → p.stands old true → p.run new ≡ p.run old → p.rank_of new ≡ p.rank_of old → p.place new ≡ p.place old + 1
        → KeepsWanted p m old kept → KeepsWanted p m new (of_others m.name (label_of p m old) kept)
    keeps_next old new kept stands run rank place keeps =
        let at = label_of p m old in
        let other : M → Bool = λ x. is_ne (label_cmp (m.name x).label at) in
        let rising = (on_course old true stands).rising (p.rank_of old) in
        let next = label_along (p.run new) (p.run old) (p.rank_of new) (p.rank_of old) (p.place new) (p.place old + 1) run rank place in
        let wanted : (x : M) → IsWanted p m old x × (other x ≡ true) → IsWanted p m new x = λ x h. record {
          own = h.0.own ∙ sym run;
          mine = h.0.mine ∙ sym rank;
          ahead = rw next (no_sooner ((course_of p m old).labels (p.rank_of old)) rising (p.place old) (m.name x).label (visited old x stands h.0) (greater_from_ne _ h.0.ahead h.1));
        } in
        let both : All (λ x. IsWanted p m old x × (other x ≡ true)) (filter other kept) =
        λ k d within. (All-filter other (IsWanted p m old) kept keeps.wanted k d within, filter_passes other kept k d within) in
        record {
          wanted = All-weaker (λ x. IsWanted p m old x × (other x ≡ true)) (IsWanted p m new) wanted (filter other kept) both;
          rising = AllPairs-filter (λ x y. name_cmp (m.name x) (m.name y) ≡ Less) other kept keeps.rising;
        }

    -- a program that has finished its label and entered the next one
    pub sound_advanced : (old left new : P) (letters kept : List M) → p.stands old true → KeepsWanted p m old kept
        → p.run left ≡ p.run old → p.rank_of left ≡ p.rank_of old → p.place left ≡ p.place old + 1 → ¬ IsDone p m left
        → p.stands new true → Stays p.run p.rank_of p.place left new → All (λ x. m.run x ≡ p.run left) letters
        → map m.name letters ≡ sent (course_of p m left) (label_of p m left) (p.rank_of left)
        → IsSound p m (record { program = new; outbox = letters; kept = of_others m.name (label_of p m old) kept; over = false; failed = false })
    sound_advanced old left new letters kept stands keeps run rank place going_on entered stays own names =
        let IsLeft : R → ℕ → ℕ → Type 0 = λ r i k. ¬ (length ((m.course r).labels i) ≤ k) in
        let IsNamed : R → ℕ → ℕ → Type 0 = λ r i k. map m.name letters ≡ sent (m.course r) (label_at ((m.course r).labels i) k) i in
        sound_entered new letters (of_others m.name (label_of p m old) kept) entered (at_same IsLeft left new stays going_on) (rw stays.same_run own) (at_same IsNamed left new stays names) (keeps_next old new kept stands (stays.same_run ∙ run) (stays.same_rank ∙ rank) (stays.same_place ∙ place) keeps)

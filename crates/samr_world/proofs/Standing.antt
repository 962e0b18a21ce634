-- Each event leaves every rank where the definition has it.
use Rattle.std.proofs.Common.{◌≡◌, ◌≢◌, ℕ, ◌+◌, ◌<◌, ◌≤◌, List, [], ◌∷◌, ◌++◌, length, map, refl, sym, ap, ◌∙◌, subst, arith, Bool, true, false, ◌⊎◌, inl, inr, All, AllPairs, Contains, Some, is_some, IsTrue, slice_get, set, length-set}
use Rattle.std.specs.List.{remove}
use Rattle.std.specs.Ordering.{is_ne}
use Rattle.std.specs.declared.cmp.Ordering.{Ordering}
use Rattle.std.specs.declared.cmp.Ordering.TheVariants.{Less, Equal, Greater}
use Rattle.std.proofs.lemmas.Bool.{cases_Bool, cases_lt, false≢true}
use Rattle.std.proofs.lemmas.Cmp.{tied_itself}
use Rattle.std.proofs.lemmas.List.Elements.{All-weaker, All-push, All-head, Contains-append_right}
use Rattle.samr_stage.specs.declared.label.Label.{Label}
use Rattle.samr_stage.specs.declared.label.Name.{Name}
use Rattle.samr_stage.specs.declared.mail.Mail as letter
use Rattle.samr_stage.specs.declared.program.Program as actor
use Rattle.samr_stage.specs.Label.{label_cmp}
use Rattle.samr_stage.specs.LabelLaws.{label_cmp_total, label_tied}
use Rattle.samr_stage.specs.Course.{IsCourse, sent, label_at}
use Rattle.samr_stage.specs.Held.{AreRising}
use Rattle.samr_stage.specs.Machine.{State, of_others, course_of, label_of, IsSound, Advances}
use Rattle.samr_stage.proofs.Courses.{is_sent, from_sent, rising-sent, label_up, before_next, none_after_last}
use Rattle.samr_stage.proofs.Lists.{Contains-head}
use Rattle.samr_stage.proofs.Machines.{label_along}
use Rattle.samr_world.specs.World.{Shape, IsNamed, HasLeft, HasGiven, IsGivenOut, IsReceived, IsAt, StandsIn}
use Rattle.samr_world.proofs.NamedLetters.{same_or_not, stands_once, named_push, named_last, named_remove, named_others, named_contains, contains_named}
use Rattle.samr_world.proofs.InPlace.{get_set_cases, get_set_same, get_set_other, All-remove, All-get}

module _ {P M R : Type 0} (p : actor.Ghosts P M R) (m : letter.Ghosts M R) where
  -- what was given out before a machine was replaced was given out after, if so for the machine
  given_along : (machines : List (State P M)) (rank : ℕ) (before after : State P M) → slice_get machines rank ≡ Some before
      → ((n : Name) → HasGiven p m before n → HasGiven p m after n)
      → (n : Name) → IsGivenOut p m machines n → IsGivenOut p m (set machines rank after) n
  given_along machines rank before after here step n given s got = elim (get_set_cases machines rank n.sender after s got) [
    | inl same ↦
        let H : State P M → Type 0 = λ t. HasGiven p m t n in
        subst H (sym same.1) (step n (given before (ap (slice_get machines) same.0 ∙ here)))
    | inr other ↦ given s other.1
  ]

  -- and back
  given_back : (machines : List (State P M)) (rank : ℕ) (before after : State P M) → slice_get machines rank ≡ Some before
      → (n : Name) → (n.sender ≡ rank → HasGiven p m after n → HasGiven p m before n)
      → IsGivenOut p m (set machines rank after) n → IsGivenOut p m machines n
  given_back machines rank before after here n step given s got = elim (nat_same n.sender rank) [
    | inl same ↦
        let H : State P M → Type 0 = λ t. HasGiven p m t n in
        let there : slice_get machines rank ≡ Some s = ap (slice_get machines) (sym same) ∙ got in
        let is : before ≡ s = cc in
        subst H is (step same (given after (ap (slice_get (set machines rank after)) same ∙ get_set_same machines rank after before here)))
    | inr other ↦ given s (get_set_other machines rank n.sender after s other got)
  ]
    where
      nat_same : (a b : ℕ) → (a ≡ b) ⊎ (a ≢ b)
      nat_same a b = elim (cases_lt a b) [
        | inl below ↦ inr (λ e. absurd (omega arith))
        | inr from ↦ elim (cases_lt b a) [
          | inl above ↦ inr (λ e. absurd (omega arith))
          | inr upto ↦ inl (omega arith)
        ]
      ]

  received_along : (machines : List (State P M)) (rank : ℕ) (before after : State P M) → slice_get machines rank ≡ Some before
      → ((n : Name) → IsNamed m.name n before.kept ⊎ HasLeft p m before n.label → IsNamed m.name n after.kept ⊎ HasLeft p m after n.label)
      → (n : Name) → IsReceived p m machines n → IsReceived p m (set machines rank after) n
  received_along machines rank before after here step n received s got = elim (get_set_cases machines rank n.addressee after s got) [
    | inl same ↦
        let H : State P M → Type 0 = λ t. IsNamed m.name n t.kept ⊎ HasLeft p m t n.label in
        subst H (sym same.1) (step n (received before (ap (slice_get machines) same.0 ∙ here)))
    | inr other ↦ received s other.1
  ]

  team_along : (r : R) (machines : List (State P M)) (rank : ℕ) (after : State P M) → IsAt p m r rank after
      → ((i : ℕ) (s : State P M) → slice_get machines i ≡ Some s → IsAt p m r i s)
      → (i : ℕ) (s : State P M) → slice_get (set machines rank after) i ≡ Some s → IsAt p m r i s
  team_along r machines rank after at team i s got = elim (get_set_cases machines rank i after s got) [
    | inl same ↦
        let H : ℕ → State P M → Type 0 = λ j t. IsAt p m r j t in
        subst (λ j. H j s) (sym same.0) (subst (H rank) (sym same.1) at)
    | inr other ↦ team i s other.1
  ]

  module _ (truth : (x : M) → (m.course (m.run x)).letter (m.name x) ≡ Some (m.body x)) (on_course : (program : P) (entered : Bool) → p.stands program entered → IsCourse (course_of p m program)) where
    -- a run in which a machine stands has a course
    pub course_at : (r : R) (rank : ℕ) (s : State P M) → IsAt p m r rank s → IsCourse (m.course r)
    course_at r rank s at = let K : R → Type 0 = λ q. IsCourse (m.course q) in subst K at.same_run (on_course s.program _ at.sound.stands)

    -- a letter of a run is the one of its name
    pub has_letter : (r : R) (x : M) → m.run x ≡ r → IsTrue (is_some ((m.course r).letter (m.name x)))
    has_letter r x own = let K : R → Type 0 = λ q. IsTrue (is_some ((m.course q).letter (m.name x))) in subst K own (ap is_some (truth x))

    -- the label of a machine that stands
    pub label_in : (r : R) (rank : ℕ) (s : State P M) → IsAt p m r rank s → label_of p m s.program ≡ label_at ((m.course r).labels rank) (p.place s.program)
    label_in r rank s at = label_along p m (p.run s.program) r (p.rank_of s.program) rank (p.place s.program) (p.place s.program) at.same_run at.same_rank refl

    sent_in : (r : R) (rank : ℕ) (s : State P M) → IsAt p m r rank s → sent (course_of p m s.program) (label_of p m s.program) (p.rank_of s.program) ≡ sent (m.course r) (label_of p m s.program) rank
    sent_in r rank s at = ap (λ (q : R). sent (m.course q) (label_of p m s.program) (p.rank_of s.program)) at.same_run ∙ ap (λ (i : ℕ). sent (m.course r) (label_of p m s.program) i) at.same_rank

    -- the machine whose turn gives out a letter
    module _ (r : R) (rank : ℕ) (before : State P M) (x : M) (rest : List M) (at : IsAt p m r rank before) (going_on : before.over ≡ false) (front : before.outbox ≡ x ∷ rest) where
      names_left : (given : List Name) × (given ++ m.name x ∷ map m.name rest ≡ sent (m.course r) (label_of p m before.program) rank)
      names_left =
          let left = at.sound.outbox_rest going_on in
          (left.0, ap (λ xs. left.0 ++ map m.name xs) (sym front) ∙ left.1 ∙ sent_in r rank before at)

      posted_name : ((m.name x).label ≡ label_of p m before.program) × ((m.name x).sender ≡ rank) × ((m.name x).addressee < (m.course r).ranks) × IsTrue (is_some ((m.course r).letter (m.name x)))
      posted_name =
          let left = names_left in
          let among : Contains (left.0 ++ m.name x ∷ map m.name rest) (m.name x) =
          Contains-append_right left.0 (m.name x ∷ map m.name rest) (m.name x) (Contains-head (m.name x) (map m.name rest)) in
          let K : List Name → Type 0 = λ ns. Contains ns (m.name x) in
          from_sent (m.course r) (label_of p m before.program) rank (m.name x) (subst K left.1 among)

      posted_once : ¬ IsNamed m.name (m.name x) rest
      posted_once named =
          let left = names_left in
          let K : List Name → Type 0 = λ ns. AreRising (λ n. n) ns in
          stands_once left.0 (m.name x) (map m.name rest) (subst K (sym left.1) (rising-sent (m.course r) (label_of p m before.program) rank)) (contains_named m.name (m.name x) rest named)

      posted_own : m.run x ≡ r
      posted_own =
          let all = at.sound.outbox_own in
          let K : List M → Type 0 = λ xs. All (λ y. m.run y ≡ p.run before.program) xs in
          All-head (λ y. m.run y ≡ p.run before.program) x rest (subst K front all) ∙ at.same_run

      posted_forth : (n : Name) → HasGiven p m before n → HasGiven p m (record before { outbox = rest }) n
      posted_forth n (inl left) = inl left
      posted_forth n (inr (over, here, gone)) = inr (over, here, λ named. gone (let K : List M → Type 0 = IsNamed m.name n in subst K (sym front) (inr named)))

      posted_back : (n : Name) → m.name x ≢ n → HasGiven p m (record before { outbox = rest }) n → HasGiven p m before n
      posted_back n other (inl left) = inl left
      posted_back n other (inr (over, here, gone)) =
          inr (over, here, λ named. let K : List M → Type 0 = IsNamed m.name n in elim (subst K front named) [ inl same ↦ other same | inr later ↦ gone later ])

      -- a machine gives out a letter, which comes last in flight
      pub stands_posted : (w : Shape P M) → StandsIn p m r w → slice_get w.machines rank ≡ Some before → IsSound p m (record before { outbox = rest })
          → StandsIn p m r (record { machines = set w.machines rank (record before { outbox = rest }); flight = w.flight ++ x ∷ []; lost = w.lost })
      stands_posted w stands here sound =
          let after : State P M = record before { outbox = rest } in
          let machines = set w.machines rank after in
          let named = posted_name in
          let last : IsGivenOut p m machines (m.name x) =
          λ s got. (
          let H : State P M → Type 0 = λ t. HasGiven p m t (m.name x) in
          let there : slice_get machines rank ≡ Some s = ap (slice_get machines) (sym named.1) ∙ got in
          let put = get_set_same w.machines rank after before here in
          let is : after ≡ s = cc in
          subst H is (inr (going_on, named.0, posted_once))
          ) in
          let count = length-set w.machines rank after in
          record {
            ranks = count ∙ stands.ranks;
            team = team_along r w.machines rank after (record { sound = sound; working = at.working; same_run = at.same_run; same_rank = at.same_rank; within = at.within }) stands.team;
            own = All-push (λ y. m.run y ≡ r) w.flight x stands.own posted_own;
            addressed = All-push (λ y. (m.name y).addressee < length machines) w.flight x (rw count stands.addressed) (let below = named.2 in let ranks = stands.ranks in omega (arith, count));
            given = All-push (λ y. IsGivenOut p m machines (m.name y)) w.flight x (All-weaker (λ y. IsGivenOut p m w.machines (m.name y)) (λ y. IsGivenOut p m machines (m.name y)) (λ y. given_along w.machines rank before after here posted_forth (m.name y)) w.flight stands.given) last;
            kept_or_flying = λ none n there given. elim (same_or_not (m.name x) n) [
              | inl same ↦ inl (named_last m.name n w.flight x same)
              | inr other ↦ elim (stands.kept_or_flying none n there (given_back w.machines rank before after here n (λ _. posted_back n other) given)) [
                | inl flying ↦ inl (named_push m.name n w.flight x flying)
                | inr received ↦ inr (received_along w.machines rank before after here (λ k h. h) n received)
              ]
            ];
          }

    -- the machine whose turn goes on to the next label
    module _ (r : R) (rank : ℕ) (before after : State P M) (at : IsAt p m r rank before) (advances : Advances p m before after) (sound : IsSound p m after) where
      pub going_to : (p.run after.program ≡ r) × (p.rank_of after.program ≡ rank)
      going_to = (advances.same_run ∙ at.same_run, advances.same_rank ∙ at.same_rank)

      pub label_after : label_of p m after.program ≡ label_at ((m.course r).labels rank) (p.place before.program + 1)
      label_after = label_along p m (p.run after.program) r (p.rank_of after.program) rank (p.place after.program) (p.place before.program + 1) going_to.0 going_to.1 advances.next

      done_along : (q s : R) (i j k l : ℕ) → q ≡ s → i ≡ j → k ≡ l → length ((m.course q).labels i) ≤ k → length ((m.course s).labels j) ≤ l
      done_along q s i j k l e f h done = let K : R → ℕ → ℕ → Type 0 = λ a b c. length ((m.course a).labels b) ≤ c in
          subst (λ a. K a j l) e (subst (λ b. K q b l) f (subst (K q i) h done))

      rising : AllPairs (λ a b. label_cmp a b ≡ Less) ((m.course r).labels rank)
      rising = (course_at r rank before at).rising rank

      pub within_before : p.place before.program < length ((m.course r).labels rank)
      within_before = elim (cases_lt (p.place before.program) (length ((m.course r).labels rank))) [
        | inl below ↦ below
        | inr done ↦
            let over = at.sound.over.1 (done_along r (p.run before.program) rank (p.rank_of before.program) (p.place before.program) (p.place before.program) (sym at.same_run) (sym at.same_rank) refl done) in
            let going_on = advances.going_on in
            absurd (false≢true (sym going_on ∙ over))
      ]

      pub within_after : after.over ≡ false → p.place before.program + 1 < length ((m.course r).labels rank)
      within_after going_on = elim (cases_lt (p.place before.program + 1) (length ((m.course r).labels rank))) [
        | inl below ↦ below
        | inr done ↦
            let over = sound.over.1 (done_along r (p.run after.program) rank (p.rank_of after.program) (p.place before.program + 1) (p.place after.program) (sym going_to.0) (sym going_to.1) (sym advances.next) done) in
            absurd (false≢true (sym going_on ∙ over))
      ]

      pub last_place : after.over ≡ true → length ((m.course r).labels rank) ≤ p.place before.program + 1
      last_place over = done_along (p.run after.program) r (p.rank_of after.program) rank (p.place after.program) (p.place before.program + 1) going_to.0 going_to.1 advances.next (sound.over.0 over)

      goes_up : after.over ≡ false → label_cmp (label_of p m before.program) (label_of p m after.program) ≡ Less
      goes_up going_on =
          let K : Label → Label → Type 0 = λ a b. label_cmp a b ≡ Less in
          let up = label_up ((m.course r).labels rank) rising (p.place before.program) (p.place before.program + 1) (omega arith) (within_after going_on) in
          subst (λ a. K a (label_of p m after.program)) (sym (label_in r rank before at)) (subst (K (label_at ((m.course r).labels rank) (p.place before.program))) (sym label_after) up)

      left_now : (l : Label) → label_cmp l (label_of p m before.program) ≢ Greater → HasLeft p m after l
      left_now l upto = elim (cases_Bool after.over) [
        | inl over ↦ inl over
        | inr going_on ↦ inr (by (label_cmp l (label_of p m before.program)) refl (goes_up going_on))
      ]
        where
          by : (o : Ordering) → label_cmp l (label_of p m before.program) ≡ o → label_cmp (label_of p m before.program) (label_of p m after.program) ≡ Less → label_cmp l (label_of p m after.program) ≡ Less
          by Less e up = label_cmp_total.trans l (label_of p m before.program) (label_of p m after.program) e up
          by Equal e up = let K : Label → Type 0 = λ k. label_cmp k (label_of p m after.program) ≡ Less in subst K (sym (label_tied l (label_of p m before.program) e)) up
          by Greater e up = absurd (upto e)

      left_still : (l : Label) → HasLeft p m before l → HasLeft p m after l
      left_still l (inl over) = absurd (let going_on = advances.going_on in false≢true (sym going_on ∙ over))
      left_still l (inr less) = left_now l (λ greater. cc)

      advanced_forth : (n : Name) → HasGiven p m before n → HasGiven p m after n
      advanced_forth n (inl left) = inl (left_still n.label left)
      advanced_forth n (inr (over, here, gone)) =
          inl (left_now n.label (λ greater. let K : Label → Type 0 = λ k. label_cmp k (label_of p m before.program) ≡ Greater in let tied = tied_itself label_cmp_total (label_of p m before.program) in let same = subst K here greater in cc))

      advanced_received : (n : Name) → IsNamed m.name n before.kept ⊎ HasLeft p m before n.label → IsNamed m.name n after.kept ⊎ HasLeft p m after n.label
      advanced_received n (inr left) = inr (left_still n.label left)
      advanced_received n (inl named) = elim (cases_Bool after.over) [
        | inl over ↦ inr (inl over)
        | inr going_on ↦ by (label_cmp n.label (label_of p m before.program)) refl (advances.kept going_on)
      ]
        where
          by : (o : Ordering) → label_cmp n.label (label_of p m before.program) ≡ o → after.kept ≡ of_others m.name (label_of p m before.program) before.kept → IsNamed m.name n after.kept ⊎ HasLeft p m after n.label
          by Less e kept = inr (left_now n.label (λ greater. cc))
          by Equal e kept = inr (left_now n.label (λ greater. cc))
          by Greater e kept = inl (let K : List M → Type 0 = IsNamed m.name n in subst K (sym kept) (named_others m.name (label_of p m before.program) n before.kept (ap is_ne e) named))

      given_before : (n : Name) → label_cmp n.label (label_of p m before.program) ≢ Greater → HasGiven p m before n
      given_before n upto = by (label_cmp n.label (label_of p m before.program)) refl
        where
          by : (o : Ordering) → label_cmp n.label (label_of p m before.program) ≡ o → HasGiven p m before n
          by Less e = inl (inr e)
          by Equal e = inr (advances.going_on, label_tied n.label (label_of p m before.program) e, λ named. let K : List M → Type 0 = IsNamed m.name n in subst K advances.empty named)
          by Greater e = absurd (upto e)

      advanced_back : (n : Name) → IsTrue (is_some ((m.course r).letter n)) → n.sender ≡ rank → HasGiven p m after n → HasGiven p m before n
      advanced_back n there from given =
          let course = course_at r rank before at in
          let Visits : ℕ → Type 0 = λ i. Contains ((m.course r).labels i) n.label in
          let visited = subst Visits from (course.sender n there).1 in
          let IsGreater : Label → Type 0 = λ k. label_cmp n.label k ≡ Greater in
          let IsLess : Label → Type 0 = λ k. label_cmp n.label k ≡ Less in
          elim (cases_Bool after.over) [
            | inl over ↦ given_before n (λ greater. none_after_last ((m.course r).labels rank) rising (p.place before.program) n.label (last_place over) visited (subst IsGreater (label_in r rank before at) greater))
            | inr going_on ↦ elim given [
              | inl left ↦ elim left [
                | inl over ↦ absurd (false≢true (sym going_on ∙ over))
                | inr less ↦ given_before n (λ greater. before_next ((m.course r).labels rank) rising (p.place before.program) n.label visited (subst IsLess label_after less) (subst IsGreater (label_in r rank before at) greater))
              ]
              | inr (over, here, gone) ↦
                  let below = (course.addressee n there).0 in
                  let Sent : Label → ℕ → Type 0 = λ l i. Contains (sent (m.course r) l i) n in
                  let among = subst (λ l. Sent l rank) here (subst (Sent n.label) from (is_sent (m.course r) n there below)) in
                  let names = advances.outbox going_on ∙ ap (λ (q : R). sent (m.course q) (label_of p m after.program) (p.rank_of after.program)) going_to.0 ∙ ap (λ (i : ℕ). sent (m.course r) (label_of p m after.program) i) going_to.1 in
                  let K : List Name → Type 0 = λ ns. Contains ns n in
                  absurd (gone (named_contains m.name n after.outbox (subst K (sym names) among)))
            ]
          ]

      -- a machine goes on to the next label
      pub stands_advanced : (w : Shape P M) → StandsIn p m r w → slice_get w.machines rank ≡ Some before → after.failed ≡ false
          → StandsIn p m r (record { machines = set w.machines rank after; flight = w.flight; lost = w.lost })
      stands_advanced w stands here working =
          let machines = set w.machines rank after in
          let count = length-set w.machines rank after in
          let within = within_before in
          record {
            ranks = count ∙ stands.ranks;
            team = team_along r w.machines rank after (record { sound = sound; working = working; same_run = going_to.0; same_rank = going_to.1; within = let next = advances.next in omega arith }) stands.team;
            own = stands.own;
            addressed = rw count stands.addressed;
            given = All-weaker (λ y. IsGivenOut p m w.machines (m.name y)) (λ y. IsGivenOut p m machines (m.name y)) (λ y. given_along w.machines rank before after here advanced_forth (m.name y)) w.flight stands.given;
            kept_or_flying = λ none n there given. elim (stands.kept_or_flying none n there (given_back w.machines rank before after here n (advanced_back n there) given)) [
              | inl flying ↦ inl flying
              | inr received ↦ inr (received_along w.machines rank before after here advanced_received n received)
            ];
          }

    -- a machine takes a letter that was in flight
    module _ (r : R) (rank : ℕ) (before : State P M) (kept : List M) (x : M) (at : IsAt p m r rank before) (mine : (m.name x).addressee ≡ rank)
        (keeps : (n : Name) → IsNamed m.name n before.kept → IsNamed m.name n kept) (kept_or_left : IsNamed m.name (m.name x) kept ⊎ HasLeft p m before (m.name x).label) where
      pub stands_taken : (w : Shape P M) (place : ℕ) → StandsIn p m r w → slice_get w.machines rank ≡ Some before → slice_get w.flight place ≡ Some x → IsSound p m (record before { kept = kept })
          → StandsIn p m r (record { machines = set w.machines rank (record before { kept = kept }); flight = remove w.flight place; lost = w.lost })
      stands_taken w place stands here is sound =
          let after : State P M = record before { kept = kept } in
          let machines = set w.machines rank after in
          let count = length-set w.machines rank after in
          let received_now : (n : Name) → m.name x ≡ n → IsReceived p m machines n =
          λ n same s got. (
          let H : State P M → Type 0 = λ t. IsNamed m.name n t.kept ⊎ HasLeft p m t n.label in
          let K : Name → Type 0 = λ k. IsNamed m.name k kept ⊎ HasLeft p m before k.label in
          let there : slice_get machines rank ≡ Some s = ap (slice_get machines) (sym mine ∙ ap (λ (k : Name). k.addressee) same) ∙ got in
          let put = get_set_same w.machines rank after before here in
          let equal : after ≡ s = cc in
          subst H equal (subst K same kept_or_left)
          ) in
          record {
            ranks = count ∙ stands.ranks;
            team = team_along r w.machines rank after (record { sound = sound; working = at.working; same_run = at.same_run; same_rank = at.same_rank; within = at.within }) stands.team;
            own = All-remove (λ y. m.run y ≡ r) w.flight place stands.own;
            addressed = All-remove (λ y. (m.name y).addressee < length machines) w.flight place (rw count stands.addressed);
            given = All-remove (λ y. IsGivenOut p m machines (m.name y)) w.flight place (All-weaker (λ y. IsGivenOut p m w.machines (m.name y)) (λ y. IsGivenOut p m machines (m.name y)) (λ y. given_along w.machines rank before after here (λ n h. h) (m.name y)) w.flight stands.given);
            kept_or_flying = λ none n there given. elim (stands.kept_or_flying none n there (given_back w.machines rank before after here n (λ _ h. h) given)) [
              | inl flying ↦ elim (named_remove m.name n w.flight place x is flying) [
                | inl same ↦ inr (received_now n same)
                | inr still ↦ inl still
              ]
              | inr received ↦ inr (received_along w.machines rank before after here (λ k h. elim h [ inl named ↦ inl (keeps k named) | inr left ↦ inr left ]) n received)
            ];
          }

  -- a copy of a letter comes last in flight
  pub stands_repeated : (r : R) (w : Shape P M) (place : ℕ) (x copy : M) → StandsIn p m r w → slice_get w.flight place ≡ Some x → m.run copy ≡ m.run x → m.name copy ≡ m.name x
      → StandsIn p m r (record { machines = w.machines; flight = w.flight ++ copy ∷ []; lost = w.lost })
  stands_repeated r w place x copy stands is run name =
      let Addressed : Name → Type 0 = λ n. n.addressee < length w.machines in
      let Given : Name → Type 0 = λ n. IsGivenOut p m w.machines n in
      record {
        ranks = stands.ranks;
        team = stands.team;
        own = All-push (λ y. m.run y ≡ r) w.flight copy stands.own (run ∙ All-get (λ y. m.run y ≡ r) w.flight place x is stands.own);
        addressed = All-push (λ y. Addressed (m.name y)) w.flight copy stands.addressed (subst Addressed (sym name) (All-get (λ y. Addressed (m.name y)) w.flight place x is stands.addressed));
        given = All-push (λ y. Given (m.name y)) w.flight copy stands.given (subst Given (sym name) (All-get (λ y. Given (m.name y)) w.flight place x is stands.given));
        kept_or_flying = λ none n there given. elim (stands.kept_or_flying none n there given) [
          | inl flying ↦ inl (named_push m.name n w.flight copy flying)
          | inr received ↦ inr received
        ];
      }

  -- a letter is lost
  pub stands_lost : (r : R) (w : Shape P M) (place lost : ℕ) → StandsIn p m r w → 0 < lost → StandsIn p m r (record { machines = w.machines; flight = remove w.flight place; lost = lost })
  stands_lost r w place lost stands some = record {
    ranks = stands.ranks;
    team = stands.team;
    own = All-remove (λ y. m.run y ≡ r) w.flight place stands.own;
    addressed = All-remove (λ y. (m.name y).addressee < length w.machines) w.flight place stands.addressed;
    given = All-remove (λ y. IsGivenOut p m w.machines (m.name y)) w.flight place stands.given;
    kept_or_flying = λ none. absurd (omega arith);
  }

-- A world that stands, with nothing lost or in flight, in which no machine can take a turn, is finished.
use Rattle.std.proofs.Common.{◌≡◌, ◌≢◌, ℕ, zero, suc, List, [], ◌∷◌, map, get_or, refl, sym, ap, ◌∙◌, subst, Bool, true, false, ◌⊎◌, inl, inr, Contains, Some, is_some, IsTrue, slice_get}
use Rattle.std.specs.declared.cmp.Ordering.{Ordering}
use Rattle.std.specs.declared.cmp.Ordering.TheVariants.{Less, Equal, Greater}
use Rattle.std.proofs.lemmas.Bool.{cases_Bool, false≢true}
use Rattle.std.proofs.lemmas.Option.{slice_get-get_or}
use Rattle.samr_stage.specs.declared.label.Label.{Label}
use Rattle.samr_stage.specs.declared.label.Name.{Name}
use Rattle.samr_stage.specs.declared.mail.Mail as letter
use Rattle.samr_stage.specs.declared.program.Program as actor
use Rattle.samr_stage.specs.Label.{label_cmp}
use Rattle.samr_stage.specs.LabelLaws.{label_cmp_total, label_tied}
use Rattle.samr_stage.specs.Course.{IsCourse, awaited}
use Rattle.samr_stage.specs.Machine.{State, of_label, course_of, label_of, IsReady}
use Rattle.samr_stage.proofs.Orders.{greater_back, never_less}
use Rattle.samr_stage.proofs.Courses.{same_rising, rising-map, rising-awaited, from_awaited}
use Rattle.samr_stage.proofs.HeldLetters.{held_awaited}
use Rattle.samr_stage.proofs.Machines.{held_here}
use Rattle.samr_world.specs.World.{Shape, IsNamed, HasGiven, IsGivenOut, StandsIn, IsFinished}
use Rattle.samr_world.specs.Events.{CanTurn}
use Rattle.samr_world.proofs.NamedLetters.{named_here, contains_named}

module _ {P M R : Type 0} (p : actor.Ghosts P M R) (m : letter.Ghosts M R) where
  -- a machine that has not finished, of which no other that has not is at an earlier label
  record IsLeast (machines : List (State P M)) (rank : ℕ) (s : State P M) : Type 0 where
    here : slice_get machines rank ≡ Some s
    going_on : s.over ≡ false
    least : (j : ℕ) (t : State P M) → slice_get machines j ≡ Some t → t.over ≡ false → label_cmp (label_of p m t.program) (label_of p m s.program) ≢ Less

  over_more : (x : State P M) (xs : List (State P M)) → x.over ≡ true → ((j : ℕ) (t : State P M) → slice_get xs j ≡ Some t → t.over ≡ true) → (j : ℕ) (t : State P M) → slice_get (x ∷ xs) j ≡ Some t → t.over ≡ true
  over_more x xs over all zero t got = let same : x ≡ t = cc in ap (λ (s : State P M). s.over) (sym same) ∙ over
  over_more x xs over all (suc j) t got = all j t got

  -- no label is less than the least, also with one more machine that has finished or is not at an earlier label
  least_later : (x : State P M) (xs : List (State P M)) (s : State P M) → (x.over ≡ false → label_cmp (label_of p m x.program) (label_of p m s.program) ≢ Less)
      → ((j : ℕ) (t : State P M) → slice_get xs j ≡ Some t → t.over ≡ false → label_cmp (label_of p m t.program) (label_of p m s.program) ≢ Less)
      → (j : ℕ) (t : State P M) → slice_get (x ∷ xs) j ≡ Some t → t.over ≡ false → label_cmp (label_of p m t.program) (label_of p m s.program) ≢ Less
  least_later x xs s first rest zero t got going_on =
      let same : x ≡ t = cc in
      let K : State P M → Type 0 = λ u. u.over ≡ false → label_cmp (label_of p m u.program) (label_of p m s.program) ≢ Less in
      subst K same first going_on
  least_later x xs s first rest (suc j) t got going_on = rest j t got going_on

  least : (xs : List (State P M)) → ((j : ℕ) (t : State P M) → slice_get xs j ≡ Some t → t.over ≡ true) ⊎ ((rank : ℕ) × (s : State P M) × IsLeast xs rank s)
  least [] = inl (λ j t got. cc)
  least (x ∷ xs) = elim (cases_Bool x.over) [
    | inl over ↦ elim (least xs) [
      | inl all ↦ inl (over_more x xs over all)
      | inr found ↦
          let l = found.2 in
          inr (suc found.0, found.1, record { here = l.here; going_on = l.going_on; least = least_later x xs found.1 (λ going_on. absurd (false≢true (sym going_on ∙ over))) l.least })
    ]
    | inr going_on ↦ elim (least xs) [
      | inl all ↦
          let itself : label_cmp (label_of p m x.program) (label_of p m x.program) ≢ Less = never_less label_cmp_total (label_of p m x.program) in
          inr (0, x, record { here = refl; going_on = going_on; least = least_later x xs x (λ _. itself) (λ j t got still. absurd (false≢true (sym still ∙ all j t got))) })
      | inr found ↦ by found going_on (label_cmp (label_of p m x.program) (label_of p m found.1.program)) refl
    ]
  ]
    where
      by : (found : (rank : ℕ) × (s : State P M) × IsLeast xs rank s) → x.over ≡ false → (o : Ordering) → label_cmp (label_of p m x.program) (label_of p m found.1.program) ≡ o
          → ((j : ℕ) (t : State P M) → slice_get (x ∷ xs) j ≡ Some t → t.over ≡ true) ⊎ ((rank : ℕ) × (s : State P M) × IsLeast (x ∷ xs) rank s)
      by found going_on Less e =
          let l = found.2 in
          let at = label_of p m x.program in
          inr (0, x, record { here = refl; going_on = going_on; least = least_later x xs x (λ _. never_less label_cmp_total at) (λ j t got still less. l.least j t got still (label_cmp_total.trans (label_of p m t.program) at (label_of p m found.1.program) less e)) })
      by found going_on Equal e =
          let l = found.2 in
          inr (suc found.0, found.1, record { here = l.here; going_on = l.going_on; least = least_later x xs found.1 (λ _ less. cc) l.least })
      by found going_on Greater e =
          let l = found.2 in
          inr (suc found.0, found.1, record { here = l.here; going_on = l.going_on; least = least_later x xs found.1 (λ _ less. cc) l.least })

  -- a machine that goes on and has a letter to give out can take a turn
  nothing_to_give : (s : State P M) → s.over ≡ false → ¬ CanTurn p m s → s.outbox ≡ []
  nothing_to_give s going_on stuck = by s.outbox refl
    where
      by : (xs : List M) → s.outbox ≡ xs → s.outbox ≡ []
      by [] e = e
      by (x ∷ xs) e = absurd (stuck (
        going_on,
        λ idle. elim idle.1 [
          | inl full ↦ let never = full.1 in cc
          | inr empty ↦ let none = empty.0 in cc
        ],
      ))

  -- a machine that goes on and is ready can take a turn
  ready_turns : (s : State P M) → s.over ≡ false → IsReady p m s → CanTurn p m s
  ready_turns s going_on ready = (
    going_on,
    λ idle. elim idle.1 [
      | inl full ↦ let never = full.1 in cc
      | inr waits ↦ waits.1 ready
    ],
  )

  module _ (truth : (x : M) → (m.course (m.run x)).letter (m.name x) ≡ Some (m.body x)) (on_course : (program : P) (entered : Bool) → p.stands program entered → IsCourse (course_of p m program))
      (r : R) (w : Shape P M) (stands : StandsIn p m r w) (none_lost : w.lost ≡ 0) (none_flying : w.flight ≡ []) (stuck : (rank : ℕ) (s : State P M) → slice_get w.machines rank ≡ Some s → ¬ CanTurn p m s) where
    -- the letters that a machine at the least label awaits were given out
    given_to_least : (rank : ℕ) (s : State P M) → IsLeast w.machines rank s → (n : Name) → n.label ≡ label_of p m s.program → IsGivenOut p m w.machines n
    given_to_least rank s l n here t got = elim (cases_Bool t.over) [
      | inl over ↦ inl (inl over)
      | inr going_on ↦ by going_on (label_cmp (label_of p m s.program) (label_of p m t.program)) refl
    ]
      where
        by : t.over ≡ false → (o : Ordering) → label_cmp (label_of p m s.program) (label_of p m t.program) ≡ o → HasGiven p m t n
        by going_on Less e = inl (inr (let K : Label → Type 0 = λ k. label_cmp k (label_of p m t.program) ≡ Less in subst K (sym here) e))
        by going_on Equal e =
            let empty = nothing_to_give t going_on (stuck n.sender t got) in
            inr (going_on, here ∙ label_tied (label_of p m s.program) (label_of p m t.program) e, λ named. let K : List M → Type 0 = IsNamed m.name n in subst K empty named)
        by going_on Greater e = absurd (l.least n.sender t got going_on (greater_back label_cmp_total (label_of p m s.program) (label_of p m t.program) e))

    -- so it keeps them all
    awaited_here : (rank : ℕ) (s : State P M) → IsLeast w.machines rank s → (n : Name) → Contains (awaited (course_of p m s.program) (label_of p m s.program) (p.rank_of s.program)) n
        → Contains (map m.name (of_label m.name (label_of p m s.program) s.kept)) n
    awaited_here rank s l n among =
        let at = stands.team rank s l.here in
        let label = label_of p m s.program in
        let is = from_awaited (course_of p m s.program) label (p.rank_of s.program) n among in
        let HasLetter : R → Type 0 = λ q. IsTrue (is_some ((m.course q).letter n)) in
        let there = subst HasLetter at.same_run is.3 in
        elim (stands.kept_or_flying none_lost n there (given_to_least rank s l n is.0)) [
          | inl flying ↦ absurd (let K : List M → Type 0 = IsNamed m.name n in subst K none_flying flying)
          | inr received ↦ elim (received s (ap (slice_get w.machines) (is.1 ∙ at.same_rank) ∙ l.here)) [
            | inl named ↦ contains_named m.name n (of_label m.name label s.kept) (named_here m.name label n s.kept is.0 named)
            | inr left ↦ elim left [
              | inl over ↦ absurd (let going_on = l.going_on in false≢true (sym going_on ∙ over))
              | inr less ↦ absurd (let K : Label → Type 0 = λ k. label_cmp k label ≡ Less in never_less label_cmp_total label (subst K is.0 less))
            ]
          ]
        ]

    none_least : (rank : ℕ) (s : State P M) → IsLeast w.machines rank s → ⊥
    none_least rank s l =
        let at = stands.team rank s l.here in
        let label = label_of p m s.program in
        let held = of_label m.name label s.kept in
        let is_held = held_here p m s.program s.kept at.sound.keeps in
        let forth = held_awaited m.run m.name m.body m.course truth (p.run s.program) (on_course s.program _ at.sound.stands) label (p.rank_of s.program) held is_held in
        let ready = same_rising (map m.name held) (awaited (course_of p m s.program) label (p.rank_of s.program)) (rising-map m.name held is_held.rising) (rising-awaited (course_of p m s.program) label (p.rank_of s.program)) forth (awaited_here rank s l) in
        stuck rank s l.here (ready_turns s l.going_on ready)

    pub all_over : IsFinished p m w
    all_over = elim (least w.machines) [
      | inl all ↦ λ k d within. all k (get_or w.machines k d) (slice_get-get_or w.machines k d within)
      | inr found ↦ absurd (none_least found.0 found.1 found.2)
    ]

-- What a run of all ranks comes to, once each rank's driver has answered and the fabric is settled.
use Rattle.std.proofs.Common.{◌≡◌, ◌≢◌, ℕ, zero, suc, ◌+◌, ◌<◌, ◌≤◌, List, [], ◌∷◌, ◌++◌, length, map, get_or, drop, eqb, refl, sym, ap, ◌∙◌, subst, ⊎_elim, append-nil, zero-add, arith, All, AllPairs, Contains, Bool, true, false, Some, None, Result, Ok, Err, slice_get, IfOk, OnOk}
use Rattle.std.specs.List.{AllZip, flat_map}
use Rattle.std.specs.Ordering.{nat_cmp, ordering_then}
use Rattle.std.specs.declared.cmp.Ordering.TheVariants.{Less}
use Rattle.std.proofs.lemmas.Bool.{cases_lt, eq-eqb, false≢true}
use Rattle.std.proofs.lemmas.Bool.Decides.{eqb_tells}
use Rattle.std.proofs.lemmas.List.{length-map, get_or-map, get_or_default, drop_all, drop_more}
use Rattle.std.proofs.lemmas.List.Elements.{All-contains, Contains-append_cases, Contains-append_left, Contains-append_right, Contains-get_or}
use Rattle.std.proofs.lemmas.List.Kept.{AllPairs-filter}
use Rattle.std.proofs.lemmas.Option.{none-some, slice_get-get_or, get_or_from_slice_get, slice_get_cases}
use Rattle.samr_link.specs.declared.link.Link as wire
use Rattle.samr_link.specs.Ends.{Making, IsEnd, AreEndsFrom, AreEnds, IsFresh, AreJournals}
use Rattle.samr_link.specs.Names.{addressed, sent_by, Begins as IsFront}
use Rattle.samr_link.proofs.Returning.{end_at}
use Rattle.samr_link.proofs.Zips.{zip_at, zip_length}
use Rattle.samr_stage.specs.declared.label.Label.{Label}
use Rattle.samr_stage.specs.declared.label.Name.{Name}
use Rattle.samr_stage.specs.declared.mail.Mail as letter
use Rattle.samr_stage.specs.declared.program.Program as actor
use Rattle.samr_stage.specs.Label.{label_cmp, name_cmp}
use Rattle.samr_stage.specs.LabelLaws.{name_cmp_total}
use Rattle.samr_stage.specs.Course.{Course, IsCourse, sent, awaited, label_at, no_label}
use Rattle.samr_stage.specs.Machine.{State, course_of}
use Rattle.samr_stage.proofs.Courses.{from_sent, is_awaited, rising-sent, label_at_within}
use Rattle.samr_stage.proofs.Lists.{Contains-cases, Contains-head, Contains-tail, Contains-filter, Contains-from_filter, AllPairs-head, AllPairs-tail}
use Rattle.samr_stage.proofs.Orders.{never_less}
use Rattle.samr_stage.proofs.RunLemmas.{AllPairs-append}
use Rattle.samr_world.specs.Traffic.{IsBegun}
use Rattle.samr_world.specs.World.{IsFresh as IsAtFirst, IsTeam, HasEnded}
use Rattle.samr_drive.specs.Ahead.{all_sent, all_awaited, sent_from, awaited_from, ahead, awaiting}
use Rattle.samr_drive.specs.Driven.{IsSteady, HasGot, HasFinished, PostsAll, TakesAll, DrivenTo}
use Rattle.samr_drive.specs.Runs.{PostedAll, TookAll}
use Rattle.samr_drive.specs.Slots.{Trio, ArePairs, IsAnswer}
use Rattle.samr_drive.specs.declared.stop.Stop.{Stop}
use Rattle.samr_drive.specs.declared.stop.Stop.TheVariants.{NoMemory}

-- what holds by the value holds where there is one
pub on_ok_from : {A E Q : Type 0} (r : Result A E) (P : A → Type 0) → ((x : A) → P x → Q) → IfOk r P → OnOk r Q
on_ok_from (Ok x) P f h = f x h
on_ok_from (Err e) P f h = tt

-- the member at a place
pick : {A : Type 0} (xs : List A) (k : ℕ) → k < length xs → A
pick [] k below = absurd (omega (arith, below))
pick (x ∷ xs) zero below = x
pick (x ∷ xs) (suc k) below = pick xs k (omega (arith, below))

inside_of : {A : Type 0} (xs : List A) (k : ℕ) (x : A) → slice_get xs k ≡ Some x → k < length xs
inside_of xs k x is = ⊎_elim (λ found. found.1) (λ past. absurd (none-some x (sym past.1 ∙ is))) (slice_get_cases xs k).1

module _ {L : Type 0} (rank ends : L → ℕ) (making : L → Making) (made : Making) where
  ends_from : (r : ℕ) (es : List L) → ((k : ℕ) (d : L) → k < length es → IsEnd rank ends making made (r + k) (get_or es k d)) → AreEndsFrom rank ends making made r es
  ends_from r [] all = tt
  ends_from r (e ∷ es) all =
      let K : ℕ → Type 0 = λ n. IsEnd rank ends making made n e in
      let first : r + 0 ≡ r = omega arith in (
        subst K first (all 0 e (omega arith)),
        ends_from (r + 1) es
            (λ k d below.
            let N : ℕ → Type 0 = λ n. IsEnd rank ends making made n (get_or es k d) in
            let next : r + suc k ≡ (r + 1) + k = omega arith in
            subst N next (all (suc k) d (omega (arith, below)))),
      )

module _ {L : Type 0} (tells_posted tells_taken : L → Bool) (posted : L → ℕ → List Name) (taken : L → List Name) (by_rank : ℕ → ℕ → List Name) (of_rank : ℕ → List Name) where
  -- the journals of a rank
  journals_at : (r : ℕ) (es : List L) (k : ℕ) (d : L) → AreJournals tells_posted tells_taken posted taken by_rank of_rank r es → k < length es
      → (tells_posted (get_or es k d) ≡ true → (a : ℕ) → by_rank (r + k) a ≡ posted (get_or es k d) a) × (tells_taken (get_or es k d) ≡ true → of_rank (r + k) ≡ taken (get_or es k d))
  journals_at r [] k d all below = absurd (omega (arith, below))
  journals_at r (e ∷ es) zero d all below =
      let same : r + 0 ≡ r = omega arith in
      ((λ told a. ap (λ n. by_rank n a) same ∙ all.0 told a), (λ told. ap of_rank same ∙ all.1 told))
  journals_at r (e ∷ es) (suc k) d all below =
      let same : r + suc k ≡ (r + 1) + k = omega arith in
      let rest = journals_at (r + 1) es k d all.2 (omega (arith, below)) in
      ((λ told a. ap (λ n. by_rank n a) same ∙ rest.0 told a), (λ told. ap of_rank same ∙ rest.1 told))

-- a member of one of several lists
in_flat_map : {A : Type 0} (f : A → List Name) (xs : List A) (x : A) (n : Name) → Contains xs x → Contains (f x) n → Contains (flat_map f xs) n
in_flat_map f [] x n here inside = absurd (omega (arith, here.1))
in_flat_map f (y ∷ ys) x n here inside = ⊎_elim (λ same. let K : _ → Type 0 = λ z. Contains (f z) n in Contains-append_left (f y) (flat_map f ys) n (subst K (sym same) inside))
    (λ later. Contains-append_right (f y) (flat_map f ys) n (in_flat_map f ys x n later inside)) (Contains-cases x y ys here)

from_flat_map : {A : Type 0} (f : A → List Name) (xs : List A) (n : Name) → Contains (flat_map f xs) n → (x : A) × Contains xs x × Contains (f x) n
from_flat_map f [] n h = absurd (omega (arith, h.1))
from_flat_map f (y ∷ ys) n h = ⊎_elim (λ here. (y, Contains-head y ys, here)) (λ later. let found = from_flat_map f ys n later in (found.0, Contains-tail found.0 y ys found.1, found.2)) (Contains-append_cases (f y) (flat_map f ys) n h)

less_by_label : (a b : Name) → label_cmp a.label b.label ≡ Less → name_cmp a b ≡ Less
less_by_label a b h = ap (λ o. ordering_then o (ordering_then (nat_cmp a.sender b.sender) (nat_cmp a.addressee b.addressee))) h

-- in names that ascend, one that stands in front stands nowhere later
stands_before : (xs : List Name) (z : Name) (zs : List Name) → AllPairs (λ a b. name_cmp a b ≡ Less) (xs ++ z ∷ zs) → Contains xs z → ⊥
stands_before [] z zs rising h = omega (arith, h.1)
stands_before (x ∷ xs) z zs rising h = ⊎_elim
    (λ same.
    let less = All-contains (λ y. name_cmp x y ≡ Less) (xs ++ z ∷ zs) z (AllPairs-head (λ a b. name_cmp a b ≡ Less) x (xs ++ z ∷ zs) rising) (Contains-append_right xs (z ∷ zs) z (Contains-head z zs)) in
    let K : Name → Type 0 = λ y. name_cmp y z ≡ Less in never_less name_cmp_total z (subst K same less))
    (λ later. stands_before xs z zs (AllPairs-tail (λ a b. name_cmp a b ≡ Less) x (xs ++ z ∷ zs) rising) later) (Contains-cases z x xs h)

-- a front of names that ascend, with all of them, is the whole
whole_front : (xs rest ys : List Name) → xs ++ rest ≡ ys → AllPairs (λ a b. name_cmp a b ≡ Less) ys → ((n : Name) → Contains ys n → Contains xs n) → xs ≡ ys
whole_front xs [] ys same rising all = sym (append-nil xs) ∙ same
whole_front xs (z ∷ zs) ys same rising all =
    let K : List Name → Type 0 = λ l. AllPairs (λ a b. name_cmp a b ≡ Less) l in
    let In : List Name → Type 0 = λ l. Contains l z in
    absurd (stands_before xs z zs (subst K (sym same) rising) (all z (subst In same (Contains-append_right xs (z ∷ zs) z (Contains-head z zs)))))

module _ {B : Type 0} (c : Course B) (course : IsCourse c) where
  -- what a rank gives out in a run ascends by name
  rising_from : (rank : ℕ) (labels : List Label) → AllPairs (λ a b. label_cmp a b ≡ Less) labels → AllPairs (λ a b. name_cmp a b ≡ Less) (flat_map (λ at. sent c at rank) labels)
  rising_from rank [] rising = λ i j d below within. absurd (omega (arith, within))
  rising_from rank (at ∷ labels) rising =
      let Less' : Name → Name → Type 0 = λ a b. name_cmp a b ≡ Less in
      AllPairs-append Less' (sent c at rank) (flat_map (λ l. sent c l rank) labels) (rising-sent c at rank) (rising_from rank labels (AllPairs-tail (λ a b. label_cmp a b ≡ Less) at labels rising))
      (λ k d below k' d' below'.
      let n = get_or (sent c at rank) k d in
      let n' = get_or (flat_map (λ l. sent c l rank) labels) k' d' in
      let here = from_sent c at rank n (Contains-get_or (sent c at rank) k d below) in
      let found = from_flat_map (λ l. sent c l rank) labels n' (Contains-get_or (flat_map (λ l. sent c l rank) labels) k' d' below') in
      let there = from_sent c found.0 rank n' found.2 in
      let before = All-contains (λ l. label_cmp at l ≡ Less) labels found.0 (AllPairs-head (λ a b. label_cmp a b ≡ Less) at labels rising) found.1 in
      less_by_label n n' (ap (λ l. label_cmp l n'.label) here.0 ∙ (ap (label_cmp at) there.0 ∙ before)))

  rising_sent : (rank to : ℕ) → AllPairs (λ a b. name_cmp a b ≡ Less) (addressed to (all_sent c rank))
  rising_sent rank to = AllPairs-filter (λ a b. name_cmp a b ≡ Less) (λ n. eqb n.addressee to) (all_sent c rank) (rising_from rank (c.labels rank) (course.rising rank))

  -- what a rank gives out for another the other awaits
  sent_is_awaited : (from to : ℕ) (n : Name) → Contains (addressed to (all_sent c from)) n → (n.sender ≡ from) × Contains (all_awaited c to) n
  sent_is_awaited from to n h =
      let inside = Contains-from_filter (λ x. eqb x.addressee to) (all_sent c from) n h in
      let found = from_flat_map (λ at. sent c at from) (c.labels from) n inside.0 in
      let there = from_sent c found.0 from n found.2 in
      let addressee : n.addressee ≡ to = ⊎_elim (λ (t : (eqb n.addressee to ≡ true) × (n.addressee ≡ to)). t.1) (λ (t : (eqb n.addressee to ≡ false) × (n.addressee ≢ to)). absurd (false≢true (sym t.0 ∙ inside.1))) (eqb_tells n.addressee to) in
      let visited = (course.addressee n there.3).1 in
      let below = (course.sender n there.3).0 in
      let one = is_awaited c n there.3 below in
      let K : ℕ → Type 0 = λ r. Contains (all_awaited c r) n in
      (there.1, subst K addressee (in_flat_map (λ at. awaited c at n.addressee) (c.labels n.addressee) n.label n visited one))

module _ {P M R L : Type 0} (p : actor.Ghosts P M R) (m : letter.Ghosts M R) (w : wire.Ghosts L M R) where
  -- the program of a rank of a team
  team_at : (r : R) (programs : List P) (k : ℕ) (d : P) → IsTeam p m r programs → k < length programs → IsAtFirst p m r k (get_or programs k d)
  team_at r programs k d team below = team.fresh k (get_or programs k d) (slice_get-get_or programs k d below)

  -- a run with ranks has a course, as its programs say
  pub course_of_team : (r : R) (programs : List P) → IsTeam p m r programs → ((program : P) (entered : Bool) → p.stands program entered → IsCourse (course_of p m program))
      → (k : ℕ) → k < length programs → IsCourse (m.course r)
  course_of_team r programs team on_course k below =
      let d = pick programs k below in
      let at = team_at r programs k d team below in
      let K : R → Type 0 = λ u. IsCourse (m.course u) in
      subst K at.same_run (on_course (get_or programs k d) false at.stands)

  -- a new machine has yet to give out and to get all that its rank has in the run
  ahead_first : (r : R) (k : ℕ) (program : P) (s : State P M) → IsAtFirst p m r k program → IsBegun p m program s → ahead p m s ≡ all_sent (m.course r) k
  ahead_first r k program s first begun =
      let c = m.course r in
      let Ahead : R → ℕ → ℕ → List Name = λ run rank place. map m.name s.outbox ++ sent_from (m.course run) rank (place + 1) in
      let run = begun.begins.same_run ∙ first.same_run in
      let rank = begun.begins.same_rank ∙ first.same_rank in
      let place = begun.begins.same_place ∙ first.at_first in
      let Done : R → ℕ → ℕ → Type 0 = λ u v n. length ((m.course u).labels v) ≤ n in
      let Out : R → ℕ → ℕ → Type 0 = λ u v n. map m.name s.outbox ≡ sent (m.course u) (label_at ((m.course u).labels v) n) v in
      let here : ahead p m s ≡ Ahead r k 0 = ap (λ (t : R × ℕ × ℕ). Ahead t.0 t.1 t.2) (λ i. (run i, rank i, place i)) in
      here ∙ by s.over refl
      (λ is. subst (λ (t : R × ℕ × ℕ). Done t.0 t.1 t.2) (λ i. (run i, rank i, place i)) (begun.sound.over.0 is))
      (λ is none. absurd (false≢true (sym is ∙ begun.sound.over.1 (subst (λ (t : R × ℕ × ℕ). Done t.0 t.1 t.2) (λ i. (sym run i, sym rank i, sym place i)) none))))
      (λ is. subst (λ (t : R × ℕ × ℕ). Out t.0 t.1 t.2) (λ i. (first.same_run i, first.same_rank i, first.at_first i)) (begun.begins.outbox is))
    where
      by : (over : Bool) → s.over ≡ over → (s.over ≡ true → length ((m.course r).labels k) ≤ 0) → (s.over ≡ false → length ((m.course r).labels k) ≤ 0 → ⊥) → (s.over ≡ false → map m.name s.outbox ≡ sent (m.course r) (label_at ((m.course r).labels k) 0) k)
          → map m.name s.outbox ++ sent_from (m.course r) k (0 + 1) ≡ all_sent (m.course r) k
      by true is done going out =
          let none = done is in
          let labels = (m.course r).labels k in
          ap (λ ys. map m.name ys ++ sent_from (m.course r) k 1) (begun.sound.nothing_over is).0 ∙ (ap (flat_map (λ at. sent (m.course r) at k)) (drop_all 1 labels (omega (arith, none))) ∙ ap (flat_map (λ at. sent (m.course r) at k)) (sym (drop_all 0 labels none)))
      by false is done going out =
          let labels = (m.course r).labels k in
          let below : 0 < length labels = ⊎_elim (λ lt. lt) (λ ge. absurd (going is ge)) (cases_lt 0 (length labels)) in
          ap (λ l. l ++ sent_from (m.course r) k 1) (out is) ∙ ap (flat_map (λ at. sent (m.course r) at k)) (sym (drop_more labels 0 no_label below ∙ ap (λ (l : Label). l ∷ drop (0 + 1) labels) (label_at_within labels 0 no_label below)))

  awaiting_first : (r : R) (k : ℕ) (program : P) (s : State P M) → IsAtFirst p m r k program → IsBegun p m program s → awaiting p m s ≡ all_awaited (m.course r) k
  awaiting_first r k program s first begun = ap (λ (t : R × ℕ × ℕ). awaited_from (m.course t.0) t.1 t.2) (λ i. ((begun.begins.same_run ∙ first.same_run) i, (begun.begins.same_rank ∙ first.same_rank) i, (begun.begins.same_place ∙ first.at_first) i))

  module _ (r : R) (programs : List P) (machines : List (State P M)) (ends : List L) (made : Making) (team : IsTeam p m r programs) (begun : AllZip (IsBegun p m) programs machines) (are : AreEnds w.rank w.ends w.making made ends) (count : length ends ≡ length programs) where
    machine_count : length machines ≡ length programs
    machine_count = sym (zip_length (IsBegun p m) programs machines begun)

    begun_at : (k : ℕ) (s : State P M) → k < length machines → IsAtFirst p m r k (get_or programs k s.program) × IsBegun p m (get_or programs k s.program) (get_or machines k s)
    begun_at k s below =
        let inside : k < length programs = omega (arith, below, machine_count) in
        (team_at r programs k s.program team inside, zip_at (IsBegun p m) programs machines k s.program s begun inside)

    -- each new machine and its end may be driven
    pub pairs_steady : ArePairs (λ s e. IsSteady p m w s e None) machines ends
    pairs_steady = record {
      count = count ∙ sym machine_count;
      each = λ k s e below.
          let at = begun_at k s below in
          let inside : k < length ends = omega (arith, below, machine_count, count) in
          let end = end_at w.rank w.ends w.making made 0 ends k e are.each inside in
          record {
            sound = λ _. at.1.sound;
            fits = record {
              rank = omega (arith, end.is_rank, at.1.begins.same_rank, at.0.same_rank);
              ends = end.is_ends ∙ (sym are.count ∙ (count ∙ (team.ranks ∙ ap (λ u. (m.course u).ranks) (sym (at.1.begins.same_run ∙ at.0.same_run)))));
            };
            in_hand = λ i d lt. absurd (omega (arith, lt));
          };
    }

    module _ (answers : List (Result P Stop × L)) (driven : Trio (IsAnswer p m w) machines ends answers) where
      backs : List L
      backs = map (λ a. a.1) answers

      back_count : length backs ≡ length machines
      unfolding backs
      back_count = length-map answers (λ a. a.1) ∙ driven.third

      -- the answer of a rank
      answer_at : (k : ℕ) (d : L) → k < length machines → (s : State P M) × (a : Result P Stop × L) × (k < length answers) × (get_or backs k d ≡ a.1) × (a ≡ get_or answers k a)
          × IsAtFirst p m r k (get_or programs k s.program) × IsBegun p m (get_or programs k s.program) s × DrivenTo p m w s (get_or ends k d) a.0 a.1
      unfolding backs
      answer_at k d below =
          let s0 = pick machines k below in
          let a0 : Result P Stop × L = (Err NoMemory, d) in
          let s = get_or machines k s0 in
          let a = get_or answers k a0 in
          let inside : k < length answers = omega (arith, below, driven.third) in
          let at = begun_at k s0 below in
          let in_programs : k < length programs = omega (arith, below, machine_count) in
          let same : get_or programs k s0.program ≡ get_or programs k s.program = get_or_default programs k s0.program s.program in_programs in
          let First : P → Type 0 = λ q. IsAtFirst p m r k q in
          let Begun : P → Type 0 = λ q. IsBegun p m q s in
          (s, a, inside, get_or-map (λ (x : Result P Stop × L). x.1) answers k a0 d inside, get_or_default answers k a0 a inside, subst First same at.0, subst Begun same at.1, driven.each k s0 d a0 below)

      -- the ends that come back are those of the fabric
      pub backs_are : AreEnds w.rank w.ends w.making made (map (λ a. a.1) answers)
      unfolding backs
      backs_are = record {
        count = back_count ∙ (machine_count ∙ (sym count ∙ are.count));
        each = ends_from w.rank w.ends w.making made 0 backs
            (λ k d below.
            let inside : k < length machines = omega (arith, below, back_count) in
            let at = answer_at k d inside in
            let in_ends : k < length ends = omega (arith, inside, machine_count, count) in
            let end = end_at w.rank w.ends w.making made 0 ends k d are.each in_ends in
            let K : L → Type 0 = λ e. IsEnd w.rank w.ends w.making made (0 + k) e in
            let same = at.7.same_end in
            subst K (sym at.3) (record { is_rank = same.same_rank ∙ end.is_rank; is_ends = same.same_ends ∙ end.is_ends; is_making = same.same_making ∙ end.is_making }));
      }

      module _ (ended : List P) (all : AllZip (λ a q. a.0 ≡ Ok q) answers ended) where
        ok_at : (k : ℕ) (a : Result P Stop × L) → k < length answers → a ≡ get_or answers k a → (q : P) → a.0 ≡ Ok (get_or ended k q)
        ok_at k a below here q = ap (λ (x : Result P Stop × L). x.0) here ∙ zip_at (λ x y. x.0 ≡ Ok y) answers ended k a q all below

        -- each program that comes back is at its end
        pub has_ended : HasEnded p m r ended
        has_ended = record {
          ranks = sym (zip_length (λ a q. a.0 ≡ Ok q) answers ended all) ∙ (driven.third ∙ (machine_count ∙ team.ranks));
          ended = λ k program is.
              let below : k < length ended = inside_of ended k program is in
              let in_machines : k < length machines = omega (arith, below, zip_length (λ a q. a.0 ≡ Ok q) answers ended all, driven.third) in
              let some_end = pick ends k (omega (arith, in_machines, machine_count, count)) in
              let at = answer_at k some_end in_machines in
              let s = at.0 in
              let ok = ok_at k at.1 at.2 at.4 program ∙ ap Ok (get_or_from_slice_get ended k program program is) in
              let Finished : Result P Stop → Type 0 = λ x. IfOk x (HasFinished p m w s) in
              let done = subst Finished ok at.7.finished in
              let run = at.6.begins.same_run ∙ at.5.same_run in
              let rank = at.6.begins.same_rank ∙ at.5.same_rank in
              let place = at.6.begins.same_place ∙ at.5.at_first in
              let upto : p.place s.program ≤ length ((course_of p m s.program).labels (p.rank_of s.program)) = omega (arith, place) in
              record {
                same_run = done.same_run ∙ run;
                same_rank = done.same_rank ∙ rank;
                at_end = done.within upto ∙ ap (λ (t : R × ℕ). length ((m.course t.0).labels t.1)) (λ i. (run i, rank i));
                stands = done.stands;
              };
        }

        module _ (by_rank : ℕ → ℕ → List Name) (of_rank : ℕ → List Name) (journals : AreJournals w.tells_posted w.tells_taken w.posted w.taken by_rank of_rank 0 (map (λ a. a.1) answers))
            (fresh : All (IsFresh w.tells_posted w.tells_taken w.posted w.taken) ends) where
          -- what each rank posted
          pub posted_all : All (λ e. w.tells_posted e ≡ true) ends → PostedAll (m.course r) (length programs) by_rank
          unfolding backs
          posted_all tells from to below =
              let in_machines : from < length machines = omega (arith, below, machine_count) in
              let in_ends : from < length ends = omega (arith, below, count) in
              let d = pick ends from in_ends in
              let at = answer_at from d in_machines in
              let s = at.0 in
              let e = get_or ends from d in
              let told = tells from d in_ends in
              let q = (pick ended from (omega (arith, in_machines, zip_length (λ a y. a.0 ≡ Ok y) answers ended all, driven.third))) in
              let Posts : Result P Stop → Type 0 = λ x. OnOk x (PostsAll p m w s e at.1.1) in
              let posts = subst Posts (ok_at from at.1 at.2 at.4 q) at.7.posted in
              let back_told : w.tells_posted (get_or backs from d) ≡ true = ap w.tells_posted at.3 ∙ (at.7.same_end.same_tells_posted ∙ told) in
              let journal = (journals_at w.tells_posted w.tells_taken w.posted w.taken by_rank of_rank 0 backs from d journals (omega (arith, in_machines, back_count))).0 back_told to in
              let zero_from : 0 + from ≡ from = zero-add from in
              ap (λ k. by_rank k to) (sym zero_from)
              ∙ (journal ∙ (ap (λ x. w.posted x to) at.3 ∙ (posts told to ∙ (ap (λ l. l ++ addressed to (ahead p m s)) ((fresh from d in_ends).none_posted told to) ∙ ap (addressed to) (ahead_first r from (get_or programs from s.program) s at.5 at.6)))))

          -- what each rank took of each other
          pub took_all : IsCourse (m.course r) → All (λ e. w.tells_posted e ≡ true) ends → All (λ e. w.tells_taken e ≡ true) ends
              → ((from to : ℕ) → to < length (map (λ a. a.1) answers) → IsFront (sent_by from (of_rank to)) (by_rank from to)) → TookAll (length programs) by_rank of_rank
          unfolding backs
          took_all course tells_posted tells_taken begins from to from_below to_below =
              let c = m.course r in
              let in_machines : to < length machines = omega (arith, to_below, machine_count) in
              let in_ends : to < length ends = omega (arith, to_below, count) in
              let d = pick ends to in_ends in
              let at = answer_at to d in_machines in
              let s = at.0 in
              let e = get_or ends to d in
              let told = tells_taken to d in_ends in
              let q = (pick ended to (omega (arith, in_machines, zip_length (λ a y. a.0 ≡ Ok y) answers ended all, driven.third))) in
              let Takes : Result P Stop → Type 0 = λ x. OnOk x (TakesAll p m w s e at.1.1) in
              let takes = subst Takes (ok_at to at.1 at.2 at.4 q) at.7.taken in
              let back_told : w.tells_taken (get_or backs to d) ≡ true = ap w.tells_taken at.3 ∙ (at.7.same_end.same_tells_taken ∙ told) in
              let in_backs : to < length backs = omega (arith, in_machines, back_count) in
              let journal = (journals_at w.tells_posted w.tells_taken w.posted w.taken by_rank of_rank 0 backs to d journals in_backs).1 back_told in
              let same : w.taken at.1.1 ≡ of_rank to = sym (ap of_rank (sym (zero-add to)) ∙ (journal ∙ ap w.taken at.3)) in
              let front = begins from to in_backs in
              let posted = posted_all tells_posted from to from_below in
              let Rising : List Name → Type 0 = λ l. AllPairs (λ a b. name_cmp a b ≡ Less) l in
              let In : Name → List Name → Type 0 = λ n l. Contains l n in
              whole_front (sent_by from (of_rank to)) front.0 (by_rank from to) front.1 (subst Rising (sym posted) (rising_sent c course from to))
              (λ n there.
              let awaited = sent_is_awaited c course from to n (subst (In n) posted there) in
              let waits : Contains (awaiting p m s) n = subst (In n) (sym (awaiting_first r to (get_or programs to s.program) s at.5 at.6)) awaited.1 in
              let got = All-contains (HasGot p m w s at.1.1) (awaiting p m s) n (takes told) waits in
              let sender : eqb n.sender from ≡ true = eq-eqb n.sender from awaited.0 in
              ⊎_elim (λ taken. Contains-filter (λ x. eqb x.sender from) (of_rank to) n sender (subst (In n) same taken))
              (λ kept. let none = subst (In n) (ap (map m.name) at.6.begins.kept) kept in absurd (omega (arith, none.1))) got)

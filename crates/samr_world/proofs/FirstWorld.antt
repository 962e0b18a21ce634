-- A world of machines for one fresh program per rank.
use Rattle.std.proofs.Common.{◌≡◌, ◌≢◌, ℕ, zero, suc, ◌+◌, ◌*◌, ◌<◌, ◌≤◌, List, [], ◌∷◌, length, drop, map, get_or, refl, sym, ap, ◌∙◌, subst, arith, Bool, true, false, inl, inr, AllPairs, Contains, Some, is_some, IsTrue, slice_get, sum_by}
use Rattle.std.specs.List.{range_with_len, AllZip}
use Rattle.std.specs.declared.cmp.Ordering.TheVariants.{Less}
use Rattle.std.proofs.lemmas.Bool.{cases_Bool, false≢true}
use Rattle.std.proofs.lemmas.List.{length-map}
use Rattle.std.proofs.lemmas.List.Elements.{All-nil}
use Rattle.std.proofs.lemmas.List.Sums.{sum_by-cons}
use Rattle.std.proofs.lemmas.Option.{slice_get-get_or}
use Rattle.samr_stage.specs.declared.label.Label.{Label}
use Rattle.samr_stage.specs.declared.label.Name.{Name}
use Rattle.samr_stage.specs.declared.mail.Mail as letter
use Rattle.samr_stage.specs.declared.program.Program as actor
use Rattle.samr_stage.specs.Label.{label_cmp}
use Rattle.samr_stage.specs.LabelLaws.{label_cmp_total}
use Rattle.samr_stage.specs.Course.{Course, IsCourse, sent, label_at}
use Rattle.samr_stage.specs.Machine.{State, course_of, label_of}
use Rattle.samr_stage.proofs.Orders.{never_less}
use Rattle.samr_stage.proofs.Courses.{is_sent, label_at_within}
use Rattle.samr_stage.proofs.Machines.{label_along}
use Rattle.samr_world.specs.World.{IsGivenOut, IsAt, StandsIn, IsTeam}
use Rattle.samr_world.specs.Weight.{letters_at, visits, letters, weight_of, weight}
use Rattle.samr_world.specs.Traffic.{IsBegun}
use Rattle.samr_world.proofs.NamedLetters.{named_contains}
use Rattle.samr_world.proofs.Standing.{course_at, label_in}

-- an element of the second of two lists and the one at its place in the first
zip_at : {X Y : Type 0} (K : X → Y → Type 0) (xs : List X) (ys : List Y) → AllZip K xs ys → (i : ℕ) (y : Y) → slice_get ys i ≡ Some y → (x : X) × (slice_get xs i ≡ Some x) × K x y
zip_at K [] [] all i y got = cc
zip_at K [] (z ∷ zs) all i y got = absurd all
zip_at K (x ∷ xs) [] all i y got = absurd all
zip_at K (x ∷ xs) (z ∷ zs) all zero y got = let same : z ≡ y = cc in (x, refl, subst (K x) same all.0)
zip_at K (x ∷ xs) (z ∷ zs) all (suc i) y got = zip_at K xs zs all.1 i y got

pub zip_length : {X Y : Type 0} (K : X → Y → Type 0) (xs : List X) (ys : List Y) → AllZip K xs ys → length ys ≡ length xs
zip_length K [] [] all = refl
zip_length K [] (z ∷ zs) all = absurd all
zip_length K (x ∷ xs) [] all = absurd all
zip_length K (x ∷ xs) (z ∷ zs) all = ap suc (zip_length K xs zs all.1)

-- a sum over a list by what stands at each place
sum_by_place : {X : Type 0} (f : X → ℕ) (g : ℕ → ℕ) (xs : List X) (a : ℕ) → ((i : ℕ) (x : X) → slice_get xs i ≡ Some x → f x ≡ g (a + i)) → sum_by f xs ≡ sum_by g (range_with_len a (length xs))
sum_by_place f g [] a same = refl
sum_by_place f g (x ∷ xs) a same =
    let further : (i : ℕ) → a + suc i ≡ a + 1 + i = λ i. omega arith in
    let here : a + 0 ≡ a = omega arith in
    let rest = sum_by_place f g xs (a + 1) (λ i y got. same (suc i) y got ∙ ap g (further i)) in
    let first = same 0 x refl ∙ ap g here in
    omega (arith, rest, first, sum_by-cons f x xs, sum_by-cons g a (range_with_len (a + 1) (length xs)))

sum_of_both : (f g : ℕ → ℕ) (xs : List ℕ) → sum_by (λ i. f i + 2 * g i) xs ≡ sum_by f xs + 2 * sum_by g xs
sum_of_both f g [] = refl
sum_of_both f g (x ∷ xs) = omega (arith, sum_of_both f g xs, sum_by-cons f x xs, sum_by-cons g x xs, sum_by-cons (λ i. f i + 2 * g i) x xs)

-- what is ahead of a rank at its first place
ahead_first : {B : Type 0} (c : Course B) (rank : ℕ) (labels : List Label) (out : ℕ) → (0 < length labels → out ≡ length (sent c (label_at labels 0) rank)) → (length labels ≤ 0 → out ≡ 0)
    → length (drop 0 labels) + 2 * (out + letters_at c rank (drop 1 (drop 0 labels))) ≡ length labels + 2 * letters_at c rank labels
ahead_first c rank [] out some none = let zeroth = none (omega arith) in omega arith
ahead_first c rank (l ∷ ls) out some none =
    let here : 0 < length (l ∷ ls) = omega arith in
    let same = some here ∙ ap (λ (k : Label). length (sent c k rank)) (sym (label_at_within (l ∷ ls) 0 l here)) in
    omega (arith, same, sum_by-cons (λ at. length (sent c at rank)) l ls)

module _ {P M R : Type 0} (p : actor.Ghosts P M R) (m : letter.Ghosts M R)
    (truth : (x : M) → (m.course (m.run x)).letter (m.name x) ≡ Some (m.body x)) (on_course : (program : P) (entered : Bool) → p.stands program entered → IsCourse (course_of p m program))
    (r : R) (programs : List P) (machines : List (State P M)) (team : IsTeam p m r programs) (begun : AllZip (IsBegun p m) programs machines) where
  -- the machine of a rank, which is at its first place
  record Starts (rank : ℕ) (s : State P M) : Type 0 where
    at : IsAt p m r rank s
    at_first : p.place s.program ≡ 0
    outbox : s.over ≡ false → map m.name s.outbox ≡ sent (m.course r) (label_at ((m.course r).labels rank) 0) rank
    none : s.over ≡ true → (length ((m.course r).labels rank) ≤ 0) × (s.outbox ≡ [])

  starts : (rank : ℕ) (s : State P M) → slice_get machines rank ≡ Some s → Starts rank s
  starts rank s got =
      let found = zip_at (IsBegun p m) programs machines begun rank s got in
      let program = found.0 in
      let fresh = team.fresh rank program found.1 in
      let begins = found.2.begins in
      let run = begins.same_run ∙ fresh.same_run in
      let here = begins.same_rank ∙ fresh.same_rank in
      let first = begins.same_place ∙ fresh.at_first in
      let at : IsAt p m r rank s = record { sound = found.2.sound; working = found.2.working; same_run = run; same_rank = here; within = let zeroth = first in omega arith } in
      let label = label_along p m (p.run program) r (p.rank_of program) rank (p.place program) 0 fresh.same_run fresh.same_rank fresh.at_first in
      let K : R → ℕ → ℕ → Type 0 = λ q i k. length ((m.course q).labels i) ≤ k in
      record {
        at = at;
        at_first = first;
        outbox = λ going_on. begins.outbox going_on ∙ ap (λ (q : R). sent (m.course q) (label_of p m program) (p.rank_of program)) fresh.same_run ∙ ap (λ (i : ℕ). sent (m.course r) (label_of p m program) i) fresh.same_rank ∙ ap (λ (l : Label). sent (m.course r) l rank) label;
        none = λ over. (subst (K r rank) first (subst (λ i. K r i (p.place s.program)) here (subst (λ q. K q (p.rank_of s.program) (p.place s.program)) run (found.2.sound.over.0 over))), (found.2.sound.nothing_over over).0);
      }

  -- no label is less than the first
  none_before : (labels : List Label) → AllPairs (λ a b. label_cmp a b ≡ Less) labels → (l : Label) → Contains labels l → label_cmp l (label_at labels 0) ≢ Less
  none_before labels rising l (zero, within, is) less =
      let same = is in
      let first = label_at_within labels 0 l within in
      let equal : l ≡ label_at labels 0 = sym is ∙ first in
      let K : Label → Type 0 = λ k. label_cmp l k ≡ Less in
      never_less label_cmp_total l (subst K (sym equal) less)
  none_before labels rising l (suc k, within, is) less =
      let first = label_at_within labels 0 l (omega arith) in
      let K : Label → Type 0 = λ q. label_cmp q l ≡ Less in
      let F : Label → Type 0 = λ q. label_cmp (get_or labels 0 l) q ≡ Less in
      let up = subst F is (rising 0 (suc k) l (omega arith) within) in
      let before = subst K first up in
      never_less label_cmp_total l (label_cmp_total.trans l (label_at labels 0) l less before)

  -- no letter was given out
  none_given : (n : Name) (d : State P M) → IsCourse (m.course r) → IsTrue (is_some ((m.course r).letter n)) → IsGivenOut p m machines n → ⊥
  none_given n d course there given =
      let sender = course.sender n there in
      let labels = (m.course r).labels n.sender in
      let count = zip_length (IsBegun p m) programs machines begun in
      let ranks = team.ranks in
      let below : n.sender < length machines = omega (arith, sender.0) in
      let t = get_or machines n.sender d in
      let got = slice_get-get_or machines n.sender d below in
      let start = starts n.sender t got in
      let here = label_in p m truth on_course r n.sender t start.at ∙ ap (label_at labels) start.at_first in
      elim (given t got) [
        | inl left ↦ elim left [
          | inl over ↦ absurd (let none = (start.none over).0 in omega (arith, sender.1.1))
          | inr less ↦ absurd (let K : Label → Type 0 = λ k. label_cmp n.label k ≡ Less in none_before labels (course.rising n.sender) n.label sender.1 (subst K here less))
        ]
        | inr still ↦ absurd (
            let among = is_sent (m.course r) n there (course.addressee n there).0 in
            let Sent : Label → Type 0 = λ l. Contains (sent (m.course r) l n.sender) n in
            let K : List Name → Type 0 = λ ns. Contains ns n in
            still.2 (named_contains m.name n t.outbox (subst K (sym (start.outbox still.0)) (subst Sent (still.1 ∙ here) among))))
      ]

  pub stands_first : StandsIn p m r (record { machines = machines; flight = []; lost = 0 })
  stands_first = record {
    ranks = zip_length (IsBegun p m) programs machines begun ∙ team.ranks;
    team = λ rank s got. (starts rank s got).at;
    own = All-nil (λ x. m.run x ≡ r);
    addressed = All-nil (λ x. (m.name x).addressee < length machines);
    given = All-nil (λ x. IsGivenOut p m machines (m.name x));
    kept_or_flying = λ none n there given. inr (λ s got. absurd (none_given n s (course_at p m truth on_course r n.addressee s (starts n.addressee s got).at) there given));
  }

  weight_first_of : (rank : ℕ) (s : State P M) → slice_get machines rank ≡ Some s → weight_of p m s ≡ length ((m.course r).labels rank) + 2 * letters_at (m.course r) rank ((m.course r).labels rank)
  weight_first_of rank s got =
      let start = starts rank s got in
      let at = start.at in
      let labels = (m.course r).labels rank in
      let F : R → ℕ → ℕ → ℕ = λ q i k. length (drop k ((m.course q).labels i)) + 2 * (length s.outbox + letters_at (m.course q) i (drop 1 (drop k ((m.course q).labels i)))) in
      let K : R → ℕ → ℕ → Type 0 = λ q i k. length ((m.course q).labels i) ≤ k in
      let moved = ap (λ q. F q (p.rank_of s.program) (p.place s.program)) at.same_run ∙ ap (λ i. F r i (p.place s.program)) at.same_rank ∙ ap (F r rank) start.at_first in
      let is_done : length labels ≤ 0 → s.over ≡ true = λ done. at.sound.over.1 (subst (λ q. K q (p.rank_of s.program) (p.place s.program)) (sym at.same_run) (subst (λ i. K r i (p.place s.program)) (sym at.same_rank) (subst (K r rank) (sym start.at_first) done))) in
      moved ∙ elim (cases_Bool s.over) [
        | inl over ↦ ahead_first (m.course r) rank labels (length s.outbox) (λ below. absurd (let none = (start.none over).0 in omega arith)) (λ _. ap length (start.none over).1)
        | inr going_on ↦ ahead_first (m.course r) rank labels (length s.outbox) (λ _. sym (length-map s.outbox m.name) ∙ ap length (start.outbox going_on)) (λ done. absurd (false≢true (sym going_on ∙ is_done done)))
      ]

  -- the weight of the first world: each label counts one and each letter two
  pub weight_first : weight p m (record { machines = machines; flight = []; lost = 0 }) ≡ visits (m.course r) + 2 * letters (m.course r)
  weight_first =
      let c = m.course r in
      let f : ℕ → ℕ = λ rank. length (c.labels rank) in
      let g : ℕ → ℕ = λ rank. letters_at c rank (c.labels rank) in
      let moved : (i : ℕ) (s : State P M) → slice_get machines i ≡ Some s → weight_of p m s ≡ f (0 + i) + 2 * g (0 + i) = λ i s got. (
      let same : i ≡ 0 + i = omega arith in
      weight_first_of i s got ∙ ap (λ k. f k + 2 * g k) same) in
      let by_rank = sum_by_place (weight_of p m) (λ i. f i + 2 * g i) machines 0 moved in
      let count = ap (λ k. sum_by (λ i. f i + 2 * g i) (range_with_len 0 k)) (zip_length (IsBegun p m) programs machines begun ∙ team.ranks) in
      omega (arith, by_rank, count, sum_of_both f g (range_with_len 0 c.ranks))

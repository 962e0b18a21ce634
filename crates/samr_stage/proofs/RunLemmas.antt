-- A run put together of fragments: its course, its letters at each label, and the places of its labels.
use Rattle.std.proofs.Common.{◌≡◌, ℕ, zero, suc, ◌+◌, ◌<◌, ◌≤◌, List, [], ◌∷◌, ◌++◌, length, take, drop, filter, refl, sym, ap, ◌∙◌, subst, arith, Bool, true, false, cond, inl, inr, All, AllPairs, Contains, Some, is_some, IsTrue, slice_get}
use Rattle.std.specs.Ordering.{is_eq}
use Rattle.std.specs.declared.cmp.Ordering.TheVariants.{Less, Equal}
use Rattle.std.proofs.lemmas.Bool.{cases_Bool}
use Rattle.std.proofs.lemmas.Bool.Decides.{nat_tests}
use Rattle.std.proofs.lemmas.Cmp.{tied_itself}
use Rattle.std.proofs.lemmas.List.{length-map}
use Rattle.std.proofs.lemmas.List.Elements.{All-append, All-cons, All-nil, All-head, All-tail, All-contains}
use Rattle.std.proofs.lemmas.List.Kept.{AllPairs-filter, AllPairs-cons}
use Rattle.std.proofs.lemmas.List.Sums.{sum_by-cons, sum_by-append, length-filter}
use Rattle.std.proofs.lemmas.Option.{same_Some, slice_get_within, get_or_from_slice_get}
use Rattle.samr_stage.specs.declared.label.Name.{Name}
use Rattle.samr_stage.specs.Label.{label_cmp}
use Rattle.samr_stage.specs.LabelLaws.{label_cmp_total, label_tied}
use Rattle.samr_stage.specs.Course.{IsCourse, IsOver, name_of, label_at}
use Rattle.samr_stage.specs.Fragments.{Fragment, labels_of, letter_in, composed, IsRow, IsBefore, IsRun, visited, rounds}
use Rattle.samr_stage.proofs.Orders.{equal_from_eq}
use Rattle.samr_stage.proofs.Lists.{Contains-map, Contains-filter, Contains-head, Contains-tail, AllPairs-map, AllPairs-head, AllPairs-tail}
use Rattle.samr_stage.proofs.Courses.{label_at_within}

-- labels that differ first in the phase, or in the round
pub phase_before : (step pass : ℕ) (f g r k : ℕ) → f < g → label_cmp (record { step = step; pass = pass; phase = f; round = r }) (record { step = step; pass = pass; phase = g; round = k }) ≡ Less
phase_before step pass f g r k below = grind (arith, nat_tests)

pub round_before : (step pass phase : ℕ) (r k : ℕ) → r < k → label_cmp (record { step = step; pass = pass; phase = phase; round = r }) (record { step = step; pass = pass; phase = phase; round = k }) ≡ Less
round_before step pass phase r k below = grind (arith, nat_tests)

-- each element of one list before each of another
pub AllPairs-append : {X : Type 0} (R : X → X → Type 0) (xs ys : List X) → AllPairs R xs → AllPairs R ys → All (λ x. All (R x) ys) xs → AllPairs R (xs ++ ys)
AllPairs-append R [] ys left right across = right
AllPairs-append R (x ∷ xs) ys left right across =
    AllPairs-cons R x (xs ++ ys) (All-append (R x) xs ys (AllPairs-head R x xs left) (All-head (λ x. All (R x) ys) x xs across)) (AllPairs-append R xs ys (AllPairs-tail R x xs left) right (All-tail (λ x. All (R x) ys) x xs across))

visited_none : (B : Type 0) (rank : ℕ) → visited {B = B} rank [] ≡ 0
unfolding visited
visited_none B rank = refl

pub IsRun-none : (B : Type 0) (ranks : ℕ) → IsRun {B = B} ranks []
IsRun-none B ranks = record {
  rising = λ i j d below within. absurd (omega arith);
  rows = All-nil (IsRow ranks);
}

module _ {B : Type 0} where
  -- the letter of a name stands in a fragment of its label
  found_in : (fs : List (Fragment B)) (n : Name) → IsTrue (is_some (letter_in fs n)) → (f : Fragment B) × Contains fs f × (f.label ≡ n.label) × IsTrue (is_some (f.row n.sender n.addressee))
  unfolding letter_in
  found_in [] n there = cc
  found_in (f ∷ fs) n there = elim (cases_Bool (is_eq (label_cmp f.label n.label))) [
    | inl e ↦ (f, Contains-head f fs, label_tied f.label n.label (equal_from_eq _ e), rw e at there)
    | inr e ↦ let rest = found_in fs n (rw e at there) in (rest.0, Contains-tail rest.0 f fs rest.1, rest.2, rest.3)
  ]

  -- a label that a rank visits is among its labels
  visits_label : (rank : ℕ) (fs : List (Fragment B)) (f : Fragment B) → Contains fs f → f.visits rank ≡ true → Contains (labels_of rank fs) f.label
  unfolding labels_of
  visits_label rank fs f among visits =
      Contains-map (λ (g : Fragment B). g.label) (filter (λ (g : Fragment B). g.visits rank) fs) f (Contains-filter (λ (g : Fragment B). g.visits rank) fs f visits among)

  rising_labels : (rank : ℕ) (fs : List (Fragment B)) → AllPairs IsBefore fs → AllPairs (λ a b. label_cmp a b ≡ Less) (labels_of rank fs)
  unfolding labels_of
  rising_labels rank fs rising =
      AllPairs-map IsBefore (λ a b. label_cmp a b ≡ Less) (λ (f : Fragment B). f.label) (λ f g h. h) (filter (λ (f : Fragment B). f.visits rank) fs) (AllPairs-filter IsBefore (λ (f : Fragment B). f.visits rank) fs rising)

  pub composed_is_course : (ranks : ℕ) (fs : List (Fragment B)) → IsRun ranks fs → IsCourse (composed ranks fs)
  unfolding composed
  composed_is_course ranks fs run = record {
    rising = λ rank. rising_labels rank fs run.rising;
    sender = λ n there.
        let found = found_in fs n there in
        let row = (All-contains (IsRow ranks) fs found.0 run.rows found.1).sender n.sender n.addressee found.3 in
        (row.0, subst (λ l. Contains (labels_of n.sender fs) l) found.2 (visits_label n.sender fs found.0 found.1 row.1));
    addressee = λ n there.
        let found = found_in fs n there in
        let row = (All-contains (IsRow ranks) fs found.0 run.rows found.1).addressee n.sender n.addressee found.3 in
        (row.0, subst (λ l. Contains (labels_of n.addressee fs) l) found.2 (visits_label n.addressee fs found.0 found.1 row.1));
  }

  -- the letters at a label are those of the fragment there
  pub letter_at : (fs : List (Fragment B)) (i : ℕ) (f : Fragment B) → AllPairs IsBefore fs → slice_get fs i ≡ Some f → (from to : ℕ) → letter_in fs (name_of f.label from to) ≡ f.row from to
  unfolding letter_in
  letter_at [] i f rising here from to = cc
  letter_at (g ∷ fs) zero f rising here from to =
      let same = same_Some g f here in
      let tied : label_cmp g.label f.label ≡ Equal = ap (λ h. label_cmp h.label f.label) same ∙ tied_itself label_cmp_total f.label in
      rw tied (ap (λ h. h.row from to) same)
  letter_at (g ∷ fs) (suc i) f rising here from to =
      let less = All-contains (IsBefore g) fs f (AllPairs-head IsBefore g fs rising) (i, slice_get_within fs i f here, get_or_from_slice_get fs i f f here) in
      rw less (letter_at fs i f (AllPairs-tail IsBefore g fs rising) here from to)

  pub letter-composed : (ranks : ℕ) (fs : List (Fragment B)) (i : ℕ) (f : Fragment B) → IsRun ranks fs → slice_get fs i ≡ Some f → (from to : ℕ) → (composed ranks fs).letter (name_of f.label from to) ≡ f.row from to
  unfolding composed
  letter-composed ranks fs i f run here from to = letter_at fs i f run.rising here from to

  pub ranks-composed : (ranks : ℕ) (fs : List (Fragment B)) → (composed ranks fs).ranks ≡ ranks
  unfolding composed
  ranks-composed ranks fs = refl

  -- how many labels a rank visits
  labels_length : (rank : ℕ) (fs : List (Fragment B)) → length (labels_of rank fs) ≡ visited rank fs
  unfolding labels_of visited
  labels_length rank fs =
      length-map (filter (λ (f : Fragment B). f.visits rank) fs) (λ f. f.label) ∙ length-filter (λ (f : Fragment B). f.visits rank) fs

  visited-cons : (rank : ℕ) (f : Fragment B) (fs : List (Fragment B)) → visited rank (f ∷ fs) ≡ cond (f.visits rank) 1 0 + visited rank fs
  unfolding visited
  visited-cons rank f fs = sum_by-cons (λ (g : Fragment B). cond (g.visits rank) 1 0) f fs

  visited-append : (rank : ℕ) (fs gs : List (Fragment B)) → visited rank (fs ++ gs) ≡ visited rank fs + visited rank gs
  unfolding visited
  visited-append rank fs gs = sum_by-append (λ (g : Fragment B). cond (g.visits rank) 1 0) fs gs

  -- the label of a fragment that a rank visits stands at the place after those before it
  label_there : (rank : ℕ) (fs : List (Fragment B)) (i : ℕ) (f : Fragment B) → slice_get fs i ≡ Some f → f.visits rank ≡ true → slice_get (labels_of rank fs) (visited rank (take i fs)) ≡ Some f.label
  unfolding labels_of
  label_there rank [] i f here visits = cc
  label_there rank (g ∷ fs) zero f here visits =
      let same = same_Some g f here in
      let head : g.visits rank ≡ true = ap (λ h. h.visits rank) same ∙ visits in
      rw (visited_none B rank, head) (ap (λ h. Some h.label) same)
  label_there rank (g ∷ fs) (suc i) f here visits = by (label_there rank fs i f here visits) (g.visits rank) refl
    where
      by : slice_get (labels_of rank fs) (visited rank (take i fs)) ≡ Some f.label → (b : Bool) → g.visits rank ≡ b → slice_get (labels_of rank (g ∷ fs)) (visited rank (g ∷ take i fs)) ≡ Some f.label
      by rest true e =
          let place : visited rank (g ∷ take i fs) ≡ suc (visited rank (take i fs)) = visited-cons rank g (take i fs) ∙ ap (λ b. cond b 1 0 + visited rank (take i fs)) e ∙ omega arith in
          rw (place, e) rest
      by rest false e =
          let place : visited rank (g ∷ take i fs) ≡ visited rank (take i fs) = visited-cons rank g (take i fs) ∙ ap (λ b. cond b 1 0 + visited rank (take i fs)) e ∙ omega arith in
          rw (place, e) rest

  pub label_at_place : (ranks rank : ℕ) (fs : List (Fragment B)) (i : ℕ) (f : Fragment B) → slice_get fs i ≡ Some f → f.visits rank ≡ true → label_at ((composed ranks fs).labels rank) (visited rank (take i fs)) ≡ f.label
  unfolding composed
  label_at_place ranks rank fs i f here visits =
      let there = label_there rank fs i f here visits in
      let within = slice_get_within (labels_of rank fs) (visited rank (take i fs)) f.label there in
      sym (label_at_within (labels_of rank fs) (visited rank (take i fs)) f.label within) ∙ get_or_from_slice_get (labels_of rank fs) (visited rank (take i fs)) f.label f.label there

  pub not_over : (ranks rank : ℕ) (fs : List (Fragment B)) (i : ℕ) (f : Fragment B) → slice_get fs i ≡ Some f → f.visits rank ≡ true → ¬ IsOver (composed ranks fs) rank (visited rank (take i fs))
  unfolding composed
  not_over ranks rank fs i f here visits over =
      let within = slice_get_within (labels_of rank fs) (visited rank (take i fs)) f.label (label_there rank fs i f here visits) in omega arith

  -- the rest of a run from a fragment on
  pub here_at : (fs : List (Fragment B)) (k : ℕ) (f : Fragment B) (rest : List (Fragment B)) → drop k fs ≡ f ∷ rest → slice_get fs k ≡ Some f
  here_at [] zero f rest is = cc
  here_at [] (suc k) f rest is = cc
  here_at (g ∷ fs) zero f rest is = cc
  here_at (g ∷ fs) (suc k) f rest is = here_at fs k f rest is

  pub rest_at : (fs : List (Fragment B)) (k : ℕ) (f : Fragment B) (rest : List (Fragment B)) → drop k fs ≡ f ∷ rest → drop (suc k) fs ≡ rest
  rest_at [] zero f rest is = cc
  rest_at [] (suc k) f rest is = cc
  rest_at (g ∷ fs) zero f rest is = cc
  rest_at (g ∷ fs) (suc k) f rest is = rest_at fs k f rest is

  -- the place after a fragment is one more where the rank visits it, and the same where not
  pub place_next : (rank : ℕ) (fs : List (Fragment B)) (k : ℕ) (f : Fragment B) (rest : List (Fragment B)) → drop k fs ≡ f ∷ rest → visited rank (take (suc k) fs) ≡ visited rank (take k fs) + cond (f.visits rank) 1 0
  place_next rank [] zero f rest is = cc
  place_next rank [] (suc k) f rest is = cc
  place_next rank (g ∷ fs) zero f rest is =
      let same : g ≡ f = cc in
      visited-cons rank g [] ∙ ap (λ h. cond (h.visits rank) 1 0 + visited {B = B} rank []) same ∙ omega (arith, visited_none B rank)
  place_next rank (g ∷ fs) (suc k) f rest is =
      let next = place_next rank fs k f rest is in
      omega (arith, next, visited-cons rank g (take (suc k) fs), visited-cons rank g (take k fs))

  -- where no fragment is left the rank has left all its labels
  pub over_at_end : (ranks rank : ℕ) (fs : List (Fragment B)) (k : ℕ) → drop k fs ≡ [] → IsOver (composed ranks fs) rank (visited rank (take k fs))
  unfolding composed
  over_at_end ranks rank fs k is =
      let all = all_taken fs k is in omega (arith, labels_length rank fs, ap (visited rank) all)
    where
      all_taken : (xs : List (Fragment B)) (k : ℕ) → drop k xs ≡ [] → take k xs ≡ xs
      all_taken [] zero is = refl
      all_taken [] (suc k) is = refl
      all_taken (x ∷ xs) zero is = cc
      all_taken (x ∷ xs) (suc k) is = ap (λ ys. x ∷ ys) (all_taken xs k is)

  -- one block of fragments after another
  pub IsRun-append : (ranks : ℕ) (fs gs : List (Fragment B)) → IsRun ranks fs → IsRun ranks gs → All (λ f. All (IsBefore f) gs) fs → IsRun ranks (fs ++ gs)
  IsRun-append ranks fs gs first second across = record {
    rising = AllPairs-append IsBefore fs gs first.rising second.rising across;
    rows = All-append (IsRow ranks) fs gs first.rows second.rows;
  }

  -- what holds of each round holds of all their fragments
  pub All-rounds : (P : Fragment B → Type 0) (fragment : ℕ → Fragment B) (first count : ℕ) → ((round : ℕ) → first ≤ round → round < first + count → P (fragment round)) → All P (rounds fragment first count)
  All-rounds P fragment first zero each = All-nil P
  All-rounds P fragment first (suc count) each =
      All-cons P (fragment first) (rounds fragment (first + 1) count) (each first (omega arith) (omega arith)) (All-rounds P fragment (first + 1) count (λ round from below. each round (omega arith) (omega arith)))

  -- rounds whose labels ascend
  pub IsRun-rounds : (ranks : ℕ) (fragment : ℕ → Fragment B) (first count : ℕ) → ((i j : ℕ) → i < j → IsBefore (fragment i) (fragment j)) → ((round : ℕ) → IsRow ranks (fragment round)) → IsRun ranks (rounds fragment first count)
  IsRun-rounds ranks fragment first zero rising rows = IsRun-none B ranks
  IsRun-rounds ranks fragment first (suc count) rising rows =
      let rest = IsRun-rounds ranks fragment (first + 1) count rising rows in
      record {
        rising = AllPairs-cons IsBefore (fragment first) (rounds fragment (first + 1) count) (All-rounds (IsBefore (fragment first)) fragment (first + 1) count (λ round from below. rising first round (omega arith))) rest.rising;
        rows = All-cons (IsRow ranks) (fragment first) (rounds fragment (first + 1) count) (rows first) rest.rows;
      }

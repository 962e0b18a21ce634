-- The thirty stages as data: six in each of five groups.
use Rattle.std.specs.Prelude.{◌≡◌, ℕ, ◌+◌, List, [], ◌∷◌, ◌++◌, Bool, true, Option, is_some, IsTrue, refl}
use Rattle.std.proofs.Common.{arith}
use Rattle.samr_stage.specs.declared.label.Label.{Label}
use Rattle.samr_stage.specs.declared.label.Name.{Name}
use Rattle.samr_stage.specs.Course.{Course}
use Rattle.samr_stage.specs.Fragments.{Fragment, labels_of, letter_in, IsRun}
use Rattle.samr_stage.proofs.RunLemmas.{phase_before}
use Rattle.samr_phase.specs.Going.{IsStretch}
use Rattle.samr_phase.specs.Journey.{IsOf}
use Rattle.samr_phase.specs.Stretch.{Stretch, Stop, at_one, followed}
use Rattle.samr_phase.specs.Stretches.{upto_itself, one_stretch, stretch_then}
use Rattle.samr_trials_phases.specs.Places.{Place, label_of, next}
use Rattle.samr_trials_phases.specs.Rows.{row, visits, visitors}

abbrev pub telling : Stop Place Place ℕ
telling = record { label = label_of; visits = λ w. visits; says = λ w. row w.number; after = next }

abbrev pub one : Stretch Place Place ℕ
one = at_one (λ n. n) telling

abbrev pub three : Stretch Place Place ℕ
three = followed one (followed one one)

abbrev pub six : Stretch Place Place ℕ
six = followed three three

-- a group of six stages, by names that do not unfold
unfoldable pub six_fragments : Place → List (Fragment ℕ)
six_fragments = six.fragments

unfoldable pub six_after : Place → Place
six_after = six.after

abbrev pub group : Stretch Place Place ℕ
group = record { fragments = six_fragments; after = six_after }

abbrev pub thirty : Stretch Place Place ℕ
thirty = followed group (followed group (followed group (followed group group)))

abbrev pub first_place : ℕ → Place
first_place number = record { number = number; phase = 0 }

-- the run of a number
unfoldable pub fragments_of : ℕ → List (Fragment ℕ)
fragments_of number = thirty.fragments (first_place number)

unfoldable pub letter_of : ℕ → Name → Option ℕ
letter_of number = letter_in (fragments_of number)

abbrev pub course_of : ℕ → Course ℕ
course_of number = record { ranks = 3; labels = λ rank. labels_of rank (fragments_of number); letter = letter_of number }

pub thirty_is_of : (number : ℕ) → IsOf (course_of number) (letter_of number) 3 (thirty.fragments (first_place number))
unfolding fragments_of letter_of
thirty_is_of number = record { same_ranks = refl; same_labels = λ rank. refl; same_letters = λ n. refl }

-- labels rise from stage to stage
abbrev pub Rises : Stretch Place Place ℕ → Type 0
Rises s = (w : Place) → IsStretch 3 (label_of w) (label_of (s.after w)) (s.fragments w)

one_rises : Rises one
one_rises w =
    let before = phase_before 0 0 w.phase (w.phase + 1) 0 0 (omega arith) in
    one_stretch 3 (label_of w) (label_of (next w)) (label_of w) visits (λ n. n) (row w.number) (visitors w.number) (upto_itself (label_of w)) before (λ after. cc)

then_rises : (s t : Stretch Place Place ℕ) → Rises s → Rises t → Rises (followed s t)
then_rises s t first second w =
    stretch_then 3 (label_of w) (label_of (s.after w)) (label_of (t.after (s.after w))) (s.fragments w) (t.fragments (s.after w)) (first w) (second (s.after w))

group_rises : Rises group
unfolding six_fragments six_after
group_rises =
    let two = then_rises one one one_rises one_rises in
    let some = then_rises one (followed one one) one_rises two in
    then_rises three three some some

pub thirty_is_run : (number : ℕ) → IsRun 3 (thirty.fragments (first_place number))
thirty_is_run number =
    let two = then_rises group group group_rises group_rises in
    let many = then_rises group (followed group group) group_rises two in
    let more = then_rises group (followed group (followed group group)) group_rises many in
    (then_rises group (followed group (followed group (followed group group))) group_rises more (first_place number)).is_run

-- A run put together of fragments, one for each label: which ranks visit it, and which letters there are at it.
use Rattle.std.specs.Prelude.{◌≡◌, ℕ, ◌<◌, List, map, filter, count_by, All, AllPairs, Bool, true, Option, option_map, option_and_then, is_some, IsTrue}
use Rattle.std.specs.List.{find, range_with_len}
use Rattle.std.specs.Ordering.{is_eq}
use Rattle.std.specs.declared.cmp.Ordering.TheVariants.{Less}
use Rattle.samr_stage.specs.declared.label.Label.{Label}
use Rattle.samr_stage.specs.declared.label.Name.{Name}
use Rattle.samr_stage.specs.Label.{label_cmp}
use Rattle.samr_stage.specs.Course.{Course}

-- a label, the ranks that visit it, and the row of its letters
pub record Fragment (B : Type 0) : Type 0 where
  pub label : Label
  pub visits : ℕ → Bool
  pub row : ℕ → ℕ → Option B

-- the labels that a rank visits
unfoldable pub labels_of : {B : Type 0} → ℕ → List (Fragment B) → List Label
labels_of rank fragments =
    map (λ fragment. fragment.label) (filter (λ fragment. fragment.visits rank) fragments)

-- the letter of a name is the one in the row of its label
unfoldable pub letter_in : {B : Type 0} → List (Fragment B) → Name → Option B
letter_in fragments n =
    option_and_then (λ fragment. fragment.row n.sender n.addressee) (find (λ fragment. is_eq (label_cmp fragment.label n.label)) fragments)

-- the course of the run
unfoldable pub composed : {B : Type 0} → ℕ → List (Fragment B) → Course B
composed ranks fragments =
    record { ranks = ranks; labels = λ rank. labels_of rank fragments; letter = letter_in fragments }

-- a row whose bodies stand wrapped in those of the run
abbrev pub carried : {B C : Type 0} → (B → C) → (ℕ → ℕ → Option B) → ℕ → ℕ → Option C
carried wrap row from to = option_map wrap (row from to)

-- the letters of a fragment go between ranks that visit its label
pub record IsRow {B : Type 0} (ranks : ℕ) (fragment : Fragment B) : Type 0 where
  pub sender : (from to : ℕ) → IsTrue (is_some (fragment.row from to)) → (from < ranks) × (fragment.visits from ≡ true)
  pub addressee : (from to : ℕ) → IsTrue (is_some (fragment.row from to)) → (to < ranks) × (fragment.visits to ≡ true)

-- one fragment's label comes before another's
abbrev pub IsBefore : {B : Type 0} → Fragment B → Fragment B → Type 0
IsBefore f g = label_cmp f.label g.label ≡ Less

-- fragments whose labels ascend, each with a row of its own ranks
pub record IsRun {B : Type 0} (ranks : ℕ) (fragments : List (Fragment B)) : Type 0 where
  pub rising : AllPairs IsBefore fragments
  pub rows : All (IsRow ranks) fragments

-- how many of the fragments a rank visits, which is its place after them
unfoldable pub visited : {B : Type 0} → ℕ → List (Fragment B) → ℕ
visited rank fragments = count_by (λ fragment. fragment.visits rank) fragments

-- the fragments of so many rounds, from a first one on
abbrev pub rounds : {B : Type 0} → (ℕ → Fragment B) → ℕ → ℕ → List (Fragment B)
rounds fragment first count = map fragment (range_with_len first count)

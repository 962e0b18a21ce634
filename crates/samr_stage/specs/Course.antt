-- The course of a run: which labels each rank visits, and which letters it has.
use Rattle.std.specs.Prelude.{◌≡◌, ℕ, ◌-◌, ◌<◌, ◌≤◌, min, List, length, slice_index_or, map, filter, AllPairs, Contains, Bool, Option, is_some, IsTrue}
use Rattle.std.specs.List.{range_with_len}
use Rattle.std.specs.declared.cmp.Ordering.TheVariants.{Less}
use Rattle.samr_stage.specs.declared.label.Label.{Label}
use Rattle.samr_stage.specs.declared.label.Name.{Name}
use Rattle.samr_stage.specs.Label.{label_cmp}

-- how many ranks there are, the labels that each visits, in order, and the body of the letter of each name, where there is one
pub record Course (B : Type 0) : Type 0 where
  pub ranks : ℕ
  pub labels : ℕ → List Label
  pub letter : Name → Option B

-- the name of the letter of one rank to another at a label
abbrev pub name_of : Label → ℕ → ℕ → Name
name_of at from to = record { label = at; sender = from; addressee = to }

-- the numbers below n that pass, ascending
unfoldable pub passing : (ℕ → Bool) → ℕ → List ℕ
passing passes n = filter passes (range_with_len 0 n)

-- the labels all zeros
abbrev pub no_label : Label
no_label = record { step = 0; pass = 0; phase = 0; round = 0 }

-- the label at a place; past the end the last one, and where there is none all zeros
unfoldable pub label_at : List Label → ℕ → Label
label_at labels place = slice_index_or labels (min place (length labels - 1)) no_label

module _ {B : Type 0} (c : Course B) where
  -- the names of the letters that a rank gives out at a label, by addressee
  unfoldable pub sent : Label → ℕ → List Name
  sent at from = map (λ to. name_of at from to) (passing (λ to. is_some (c.letter (name_of at from to))) c.ranks)

  -- the names of the letters that a rank awaits at a label, by sender
  unfoldable pub awaited : Label → ℕ → List Name
  awaited at to = map (λ from. name_of at from to) (passing (λ from. is_some (c.letter (name_of at from to))) c.ranks)

  -- a rank that has left this many labels has left all that it visits
  abbrev pub IsOver : ℕ → ℕ → Type 0
  IsOver rank place = length (c.labels rank) ≤ place

  -- each rank visits its labels in ascending order, and the sender and the addressee of each letter are ranks that visit its label
  pub record IsCourse : Type 0 where
    pub rising : (rank : ℕ) → AllPairs (λ a b. label_cmp a b ≡ Less) (c.labels rank)
    pub sender : (n : Name) → IsTrue (is_some (c.letter n)) → (n.sender < c.ranks) × Contains (c.labels n.sender) n.label
    pub addressee : (n : Name) → IsTrue (is_some (c.letter n)) → (n.addressee < c.ranks) × Contains (c.labels n.addressee) n.label

-- Lists of the names of letters, and which of them go to or come from a rank.
use Rattle.std.specs.Prelude.{◌≡◌, ℕ, List, ◌++◌, filter, ◌==◌}
use Rattle.samr_stage.specs.declared.label.Name.{Name}

-- the names with an addressee, in order
abbrev pub addressed : ℕ → List Name → List Name
addressed to names = filter (λ n. n.addressee == to) names

-- the names with a sender, in order
abbrev pub sent_by : ℕ → List Name → List Name
sent_by from names = filter (λ n. n.sender == from) names

-- the one list begins the other
abbrev pub Begins : List Name → List Name → Type 0
Begins front names = (rest : List Name) × (front ++ rest ≡ names)

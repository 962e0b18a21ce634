-- What a world is, and what holds of one in which every rank is where the run's definition has it.
use Rattle.std.specs.Prelude.{◌≡◌, ℕ, ◌<◌, ◌≤◌, ◌⊎◌, List, [], ◌∷◌, length, All, Bool, true, false, Some, is_some, IsTrue}
use Rattle.std.specs.List.{slice_get}
use Rattle.std.specs.declared.cmp.Ordering.TheVariants.{Less}
use Rattle.samr_stage.specs.declared.label.Label.{Label}
use Rattle.samr_stage.specs.declared.label.Name.{Name}
use Rattle.samr_stage.specs.declared.mail.Mail as letter
use Rattle.samr_stage.specs.declared.program.Program as actor
use Rattle.samr_stage.specs.Label.{label_cmp}
use Rattle.samr_stage.specs.Machine.{State, label_of, IsSound}

-- a world: the machines of all ranks, in order of rank, the letters in flight, in the order in which they came there,
-- and how many letters were lost
pub record Shape (P M : Type 0) : Type 0 where
  pub machines : List (State P M)
  pub flight : List M
  pub lost : ℕ

-- a world, and whether memory was short
pub record Whole (P M : Type 0) : Type 0 where
  pub shape : Shape P M
  pub failed : Bool

-- one of the letters has the name
abbrev pub IsNamed : {M : Type 0} → (M → Name) → Name → List M → Type 0
IsNamed name n [] = ⊥
IsNamed name n (x ∷ xs) = (name x ≡ n) ⊎ IsNamed name n xs

module _ {P M R : Type 0} (p : actor.Ghosts P M R) (m : letter.Ghosts M R) where
  -- a rank has left a label
  abbrev pub HasLeft : State P M → Label → Type 0
  HasLeft s at = (s.over ≡ true) ⊎ (label_cmp at (label_of p m s.program) ≡ Less)

  -- a rank has given out the letter of a name: it has left the letter's label, or is there and has the letter no longer
  abbrev pub HasGiven : State P M → Name → Type 0
  HasGiven s n = HasLeft s n.label ⊎ ((s.over ≡ false) × (n.label ≡ label_of p m s.program) × ¬ IsNamed m.name n s.outbox)

  -- the letter of a name was given out by its sender
  abbrev pub IsGivenOut : List (State P M) → Name → Type 0
  IsGivenOut machines n = (s : State P M) → slice_get machines n.sender ≡ Some s → HasGiven s n

  -- the letter of a name is kept by its addressee, or the addressee has left its label
  abbrev pub IsReceived : List (State P M) → Name → Type 0
  IsReceived machines n = (s : State P M) → slice_get machines n.addressee ≡ Some s → IsNamed m.name n s.kept ⊎ HasLeft s n.label

  -- the machine of a rank of a run: its program is where the definition has it, at a label that the rank visits or at the end
  pub record IsAt (r : R) (rank : ℕ) (s : State P M) : Type 0 where
    pub sound : IsSound p m s
    pub working : s.failed ≡ false
    pub same_run : p.run s.program ≡ r
    pub same_rank : p.rank_of s.program ≡ rank
    pub within : p.place s.program ≤ length ((m.course r).labels rank)

  -- every rank's machine is where the definition of the run has it; each letter in flight is of the run and was given out
  -- by its sender; and where none was lost each letter given out is in flight, or has come to its addressee
  pub record StandsIn (r : R) (w : Shape P M) : Type 0 where
    pub ranks : length w.machines ≡ (m.course r).ranks
    pub team : (rank : ℕ) (s : State P M) → slice_get w.machines rank ≡ Some s → IsAt r rank s
    pub own : All (λ x. m.run x ≡ r) w.flight
    pub addressed : All (λ x. (m.name x).addressee < length w.machines) w.flight
    pub given : All (λ x. IsGivenOut w.machines (m.name x)) w.flight
    pub kept_or_flying : w.lost ≡ 0 → (n : Name) → IsTrue (is_some ((m.course r).letter n)) → IsGivenOut w.machines n → IsNamed m.name n w.flight ⊎ IsReceived w.machines n

  -- a world of some run
  abbrev pub Stands : Shape P M → Type 0
  Stands w = (r : R) × StandsIn r w

  -- a world stands in each run in which another stood
  abbrev pub Keeps : Shape P M → Shape P M → Type 0
  Keeps old new = (r : R) → StandsIn r old → StandsIn r new

  -- all ranks have left all their labels
  abbrev pub IsFinished : Shape P M → Type 0
  IsFinished w = All (λ s. s.over ≡ true) w.machines

  -- the program of a rank before its first label
  pub record IsFresh (r : R) (rank : ℕ) (program : P) : Type 0 where
    pub same_run : p.run program ≡ r
    pub same_rank : p.rank_of program ≡ rank
    pub at_first : p.place program ≡ 0
    pub stands : p.stands program false

  -- one fresh program per rank of a run, in order of rank
  pub record IsTeam (r : R) (programs : List P) : Type 0 where
    pub ranks : length programs ≡ (m.course r).ranks
    pub fresh : (rank : ℕ) (program : P) → slice_get programs rank ≡ Some program → IsFresh r rank program

  -- the program of a rank that has left all its labels, at the definition's last state
  pub record IsAtEnd (r : R) (rank : ℕ) (program : P) : Type 0 where
    pub same_run : p.run program ≡ r
    pub same_rank : p.rank_of program ≡ rank
    pub at_end : p.place program ≡ length ((m.course r).labels rank)
    pub stands : p.stands program false

  -- one program per rank of a run, in order of rank, each at its end
  pub record HasEnded (r : R) (programs : List P) : Type 0 where
    pub ranks : length programs ≡ (m.course r).ranks
    pub ended : (rank : ℕ) (program : P) → slice_get programs rank ≡ Some program → IsAtEnd r rank program

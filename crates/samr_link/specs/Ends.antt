-- The ends of a fabric, in order of rank, and its journals.
use Rattle.std.specs.Prelude.{◌≡◌, ℕ, ◌+◌, List, [], ◌∷◌, length, Bool, true}
use Rattle.atomic_table.specs.Seated.{TableId}
use Rattle.samr_stage.specs.declared.label.Name.{Name}

-- A making is the list of the tables of its inboxes, in order of rank. No two calls make one table.
abbrev pub Making : Type 0
Making = List TableId

module _ {L : Type 0} (rank ends : L → ℕ) (making : L → Making) (tells_posted tells_taken : L → Bool) where
  -- an end of the same rank, number of ends and making, which tells the same
  pub record IsSameEnd (old new : L) : Type 0 where
    pub same_rank : rank new ≡ rank old
    pub same_ends : ends new ≡ ends old
    pub same_making : making new ≡ making old
    pub same_tells_posted : tells_posted new ≡ tells_posted old
    pub same_tells_taken : tells_taken new ≡ tells_taken old

module _ {L : Type 0} (rank ends : L → ℕ) (making : L → Making) where
  -- the end of a rank, of a making
  pub record IsEnd (made : Making) (r : ℕ) (e : L) : Type 0 where
    pub is_rank : rank e ≡ r
    pub is_ends : ends e ≡ length made
    pub is_making : making e ≡ made

  -- the ends of the ranks from r on
  abbrev pub AreEndsFrom : Making → ℕ → List L → Type 0
  AreEndsFrom made r [] = Unit {0}
  AreEndsFrom made r (e ∷ es) = IsEnd made r e × AreEndsFrom made (r + 1) es

  -- the ends of a making: as many as it has inboxes, in order of rank
  pub record AreEnds (made : Making) (es : List L) : Type 0 where
    pub count : length es ≡ length made
    pub each : AreEndsFrom made 0 es

module _ {L : Type 0} (tells_posted tells_taken : L → Bool) (posted : L → ℕ → List Name) (taken : L → List Name) where
  -- an end by which nothing was posted or taken yet, where it tells
  pub record IsFresh (e : L) : Type 0 where
    pub none_posted : tells_posted e ≡ true → (a : ℕ) → posted e a ≡ []
    pub none_taken : tells_taken e ≡ true → taken e ≡ []

  -- the journals of the ranks from r on are those of these ends: what each posted to each addressee, and what it took
  abbrev pub AreJournals : (ℕ → ℕ → List Name) → (ℕ → List Name) → ℕ → List L → Type 0
  AreJournals by_rank of_rank r [] = Unit {0}
  AreJournals by_rank of_rank r (e ∷ es) =
      (tells_posted e ≡ true → (a : ℕ) → by_rank r a ≡ posted e a) × (tells_taken e ≡ true → of_rank r ≡ taken e) × AreJournals by_rank of_rank (r + 1) es

-- The letters of one stage on their way: a box for each rank, in order of rank, filled sender by sender.
use Rattle.std.specs.Prelude.{◌≡◌, ◌<◌, ◌≤◌, ℕ, List, ◌++◌, length, Option, Some, None, nat_eq, if◌then◌else◌, slice_get}
use Rattle.std.specs.List.{filter_map}
use Rattle.samr_stage.specs.declared.stage.Held.{Held}
use Rattle.samr_stage.specs.Row.{heard, column}

-- the letters for a rank among those of a sender
unfoldable pub for_rank : {B : Type 0} → ℕ → ℕ → List (ℕ × B) → List (Held B)
for_rank sender rank letters =
    filter_map (λ letter. if nat_eq letter.0 rank then Some (record { sender = sender; body = letter.1 }) else None) letters

-- each box has what the senders below n have for its rank
pub record HoldHeard {V B : Type 0} (items : V → List (Held B)) (row : ℕ → ℕ → Option B) (n : ℕ) (boxes : List V) : Type 0 where
  pub box : (rank : ℕ) (b : V) → slice_get boxes rank ≡ Some b → items b ≡ heard (column row rank) n

-- each box has what it had, and then the letters of a sender for its rank
pub record Deliver {V B : Type 0} (items : V → List (Held B)) (sender : ℕ) (letters : List (ℕ × B)) (old new : List V) : Type 0 where
  pub same_ranks : length new ≡ length old
  pub box : (rank : ℕ) (a b : V) → slice_get old rank ≡ Some a → slice_get new rank ≡ Some b → items b ≡ items a ++ for_rank sender rank letters

-- the ranks below n have told their letters, the others have not yet
pub record AreTelling {S W : Type 0} (starts waits : S → W → ℕ → Type 0) (w : W) (n : ℕ) (stages : List S) : Type 0 where
  pub told : (rank : ℕ) (stage : S) → rank < n → slice_get stages rank ≡ Some stage → waits stage w rank
  pub silent : (rank : ℕ) (stage : S) → n ≤ rank → slice_get stages rank ≡ Some stage → starts stage w rank

-- How the passes of a making go back to the fabric: what the fabric's passes, one of each inbox, then know.
use Rattle.std.specs.Prelude.{◌≡◌, ◌≢◌, ℕ, ◌<◌, List, [], length, map, true, false, slice_index_or}
use Rattle.crossbeam_queue.specs.Passes.{Pass, view}
use Rattle.atomic_table.specs.Seated.{TableId}
use Rattle.samr_link.specs.declared.inbox.View.{View}
use Rattle.samr_link.specs.Inbox.{KeepsAll}
use Rattle.samr_link.specs.Queue.{End, IsPassIn}
use Rattle.samr_link.specs.Views.{spent_view, takes_over, takes_back}
use Rattle.samr_stage.specs.declared.label.Name.{Name}

module _ {M : Type 0} where
  -- the view at a place
  abbrev pub view_at : List (View M) → ℕ → View M
  view_at views k = slice_index_or views k spent_view

  -- a fabric's pass of a table, where so many senders have a pass
  abbrev pub IsBack : ℕ → TableId → Pass M (View M) → Type 0
  IsBack given t p = IsPassIn t p × ((view p).keeps ≡ true) × ((view p).posts ≡ false) × ((view p).given ≡ given)

  -- a sender's pass of a table
  abbrev pub IsPosting : TableId → Pass M (View M) → Type 0
  IsPosting t p = IsPassIn t p × ((view p).posts ≡ true)

  -- the pass of the first sender whose pass has not gone back
  abbrev pub IsNext : Pass M (View M) → Pass M (View M) → Type 0
  IsNext keeper post = (view post).from ≡ length (view keeper).known

  -- so many senders' passes have gone back
  abbrev pub Knows : ℕ → Pass M (View M) → Type 0
  Knows n keeper = length (view keeper).known ≡ n

  -- all passes have gone back
  abbrev pub HasAll : Pass M (View M) → Type 0
  HasAll keeper = KeepsAll (view keeper)

  -- the passes by which one rank posts have gone back
  pub record TookOver (old posts new : List (View M)) : Type 0 where
    pub count : length new ≡ length old
    pub each : (k : ℕ) → k < length old → view_at new k ≡ takes_over (view_at old k) (view_at posts k)

  -- all passes of an end have gone back
  pub record TookBack (old : List (View M)) (e : End M) (new : List (View M)) : Type 0 where
    pub count : length new ≡ length old
    pub wide : length e.posts ≡ length old
    pub others : (k : ℕ) → k < length old → k ≢ e.rank → view_at new k ≡ takes_over (view_at old k) (view_at e.posts k)
    pub own : view_at new e.rank ≡ takes_back (takes_over (view_at old e.rank) (view_at e.posts e.rank)) e.takes

  -- the passes of these ends have gone back, in order of rank
  pub record AreBack (ends : List (End M)) (views : List (View M)) : Type 0 where
    pub wide : (k : ℕ) (d : End M) → k < length ends → length (slice_index_or ends k d).posts ≡ length views
    pub known : (k : ℕ) → k < length views → (view_at views k).known ≡ map (λ e. (view_at e.posts k).posted) ends
    pub taken : (k : ℕ) (d : End M) → k < length ends → ((view_at views k).takes ≡ true) × ((view_at views k).taken ≡ (slice_index_or ends k d).takes.taken)

-- the journals: what the passes of the inboxes know
module _ {M : Type 0} (name : M → Name) (views : List (View M)) where
  abbrev pub posted_by : ℕ → ℕ → List Name
  posted_by from to = map name (slice_index_or (view_at views to).known from [])

  abbrev pub taken_of : ℕ → List Name
  taken_of to = map name (view_at views to).taken

-- What an end over queues is, and what the passes of the inboxes know while the ends are out.
use Rattle.std.specs.Prelude.{◌≡◌, ℕ, ◌<◌, List, [], length, map, true, false, slice_index_or}
use Rattle.std.specs.List.{AllZip}
use Rattle.atomic_table.specs.Seated.{TableId}
use Rattle.crossbeam_queue.specs.declared.array_queue.Doing.{Doing}
use Rattle.crossbeam_queue.specs.declared.array_queue.Slotted.{Slotted}
use Rattle.crossbeam_queue.specs.Passes.{Pass, view, ruled_capacity}
use Rattle.std.specs.Prelude.{Option}
use Rattle.samr_link.specs.declared.inbox.View.{View}
use Rattle.samr_link.specs.Ends.{Making}
use Rattle.samr_link.specs.Views.{spent_view}
use Rattle.samr_stage.specs.declared.label.Name.{Name}

-- an end: its rank, its making, what its sender's passes know, in order of addressee, and what its taker's pass knows
pub record End (M : Type 0) : Type 0 where
  pub rank : ℕ
  pub making : Making
  pub posts : List (View M)
  pub takes : View M

module _ {T V Q A : Type 0} where
  -- the table of an inbox
  abbrev pub inbox_id : Slotted (Option T) (Doing T V) Q A → TableId
  inbox_id q = q.table.shared.table_id

  -- an inbox that holds at most 256 letters
  abbrev pub IsRoomy : Slotted (Option T) (Doing T V) Q A → Type 0
  IsRoomy q = ruled_capacity q ≡ 256

module _ {M : Type 0} where
  -- a pass of a table, with no slot out
  abbrev pub IsPassIn : TableId → Pass M (View M) → Type 0
  IsPassIn t p = (p.table_id ≡ t) × (p.me.1 ≡ [])

  -- a pass of a rank for posting
  abbrev pub IsPost : ℕ → TableId → Pass M (View M) → Type 0
  IsPost rank t p = IsPassIn t p × ((view p).posts ≡ true) × ((view p).from ≡ rank)

  -- a pass for taking
  abbrev pub IsTake : TableId → Pass M (View M) → Type 0
  IsTake t p = IsPassIn t p × ((view p).takes ≡ true)

  -- a rank's pass for posting by which nothing was posted yet
  abbrev pub IsNewPost : ℕ → TableId → Pass M (View M) → Type 0
  IsNewPost rank t p = IsPost rank t p × ((view p).posted ≡ [])

  abbrev pub IsNewTake : TableId → Pass M (View M) → Type 0
  IsNewTake t p = IsTake t p × ((view p).taken ≡ [])

  -- the fabric's pass, while the taker's pass and those of so many senders are out
  abbrev pub kept_view : ℕ → View M
  kept_view given = record { keeps = true; given = given; known = []; posts = false; from = 0; posted = []; takes = false; taken = [] }

  abbrev pub IsKeeper : ℕ → TableId → Pass M (View M) → Type 0
  IsKeeper given t p = IsPassIn t p × (view p ≡ kept_view given)

  -- the fields of an end
  abbrev pub end_of : ℕ → Making → List (Pass M (View M)) → Pass M (View M) → End M
  end_of rank making posts takes = record { rank = rank; making = making; posts = map view posts; takes = view takes }

  pub record IsSoundEnd (rank : ℕ) (making : Making) (posts : List (Pass M (View M))) (takes : Pass M (View M)) : Type 0 where
    pub within : rank < length making
    pub posting : AllZip (IsPost rank) making posts
    pub taking : (t : TableId) → IsTake (slice_index_or making rank t) takes

  -- what an end posted to an addressee, and what it took
  abbrev pub names_posted : (M → Name) → End M → ℕ → List Name
  names_posted name e to = map name (slice_index_or e.posts to spent_view).posted

  abbrev pub names_taken : (M → Name) → End M → List Name
  names_taken name e = map name e.takes.taken

-- The rule of one inbox: for each sender, the letters taken of it, followed by those of it that the inbox holds,
-- are the letters that it posted, in order.
use Rattle.std.specs.Prelude.{◌≡◌, ℕ, ◌<◌, ◌≤◌, List, [], ◌++◌, length, slice_index_or, filter, true, ◌==◌, Option, Some, None}
use mathlib.Core.Option.{some}
use lib.ListN.{get_elem?}
use Rattle.samr_link.specs.declared.inbox.View.{View}

module _ {M : Type 0} (sender : M → ℕ) where
  -- the letters of a sender, in order
  abbrev pub of_sender : ℕ → List M → List M
  of_sender s letters = filter (λ x. sender x == s) letters

  -- What a pass knows, where `keeper` and `reader` are the numbers of the fabric's and the taker's pass, `seat` gives each
  -- sender that has a pass out that pass's number, `taken` are the letters taken so far, and `all` are these and the held ones.
  pub record Fits (keeper reader : ℕ) (seat : ℕ → Option ℕ) (taken all : List M) (pass : ℕ) (v : View M) : Type 0 where
    pub posting : v.posts ≡ true → (seat v.from ≡ Some pass) × (v.posted ≡ of_sender v.from all)
    pub taking : v.takes ≡ true → (pass ≡ reader) × (v.taken ≡ taken)
    pub keeping : v.keeps ≡ true → (pass ≡ keeper)
        × ((s : ℕ) → v.given ≤ s → (seat s ≡ None) × (of_sender s all ≡ []))
        × ((s : ℕ) → s < length v.known → (seat s ≡ None) × (slice_index_or v.known s [] ≡ of_sender s all))
        × (length v.known ≤ v.given)

  -- every pass of the inbox knows what is so
  abbrev pub Inboxed : List M → List (View M) → Type 0
  Inboxed items views = (keeper : ℕ) × (reader : ℕ) × (seat : ℕ → Option ℕ) × (taken : List M)
      × ((pass : ℕ) (v : View M) → get_elem? views pass ≡ some v → Fits keeper reader seat taken (taken ++ items) pass v)

  -- an inbox under its rule that holds these letters, and one of whose passes knows v
  abbrev pub IsSeen : View M → List M → Type 0
  IsSeen v items = (views : List (View M)) × (pass : ℕ) × Inboxed items views × (get_elem? views pass ≡ some v)

  -- What was taken of each sender, followed by these held letters, is what it posted, as far as a pass knows.
  abbrev pub IsBalanced : View M → List M → Type 0
  IsBalanced v held = (s : ℕ) → slice_index_or v.known s [] ≡ of_sender s (v.taken ++ held)

  -- what was taken of each sender begins what it posted
  abbrev pub IsCompared : View M → Type 0
  IsCompared v = (held : List M) × IsBalanced v held

module _ {M : Type 0} where
  -- a pass that keeps an inbox, and to which all its passes have gone back
  pub record KeepsAll (v : View M) : Type 0 where
    pub keeps : v.keeps ≡ true
    pub takes : v.takes ≡ true
    pub all : length v.known ≡ v.given

-- The letters of a modification: the rank of an old box tells the owners of the heads of its edges, and of its new boxes.
use Rattle.std.specs.Prelude.{ℕ, Bool, ◌&&◌, not, nat_eq, nat_lt, List, ◌++◌, map, filter, Option, Some, None, if◌then◌else◌}
use Rattle.std.specs.List.{flat_map, list_any}
use Rattle.std.specs.Ordering.{nat_cmp}
use Rattle.samr_level.specs.Refs.{Owned, Link}
use Rattle.samr_level.specs.RefOrders.{in_order}
use Rattle.samr_modify.specs.declared.entries.Replaced.{Replaced}
use Rattle.samr_modify.specs.Modify.{Modifying, old_pair}
use Rattle.samr_modify.specs.Entries.{moves_of, entries, owns_one, told_to}

abbrev pub head_owners : List Link → List ℕ
head_owners edges = map (λ e. e.head.owner) edges

abbrev pub owners : List Owned → List ℕ
owners boxes = map (λ b. b.owner) boxes

-- whom a rank has something to tell: owners of heads of its old boxes' edges, and of its old boxes' new boxes
abbrev pub addressed : Modifying → ℕ → List ℕ
addressed w rank = head_owners (old_pair w rank).back.edges ++ flat_map (λ m. owners m.news) (moves_of rank w.moves)

-- whom it waits for: owners of the heads of its anchors' edges, and of the old boxes of which it owns a new box
abbrev pub awaited : Modifying → ℕ → List ℕ
awaited w rank = head_owners (old_pair w rank).forth.edges ++ map (λ m. m.old.owner) (filter (λ m. owns_one rank m.news) w.moves)

-- the others among some ranks, ascending, each once
unfoldable pub others : ℕ → List ℕ → List ℕ
others rank ranks = in_order nat_cmp (filter (λ r. not (nat_eq r rank)) ranks)

abbrev pub is_among : ℕ → List ℕ → Bool
is_among rank ranks = list_any (λ r. nat_eq r rank) ranks

-- a rank tells each other rank that it has something to tell of its old boxes that concern it
unfoldable pub modify_row : Modifying → ℕ → ℕ → Option (List Replaced)
modify_row w from to =
    if (nat_lt from w.ranks && (nat_lt to w.ranks && (not (nat_eq to from) && is_among to (addressed w from)))) then Some (told_to to (entries w from)) else None

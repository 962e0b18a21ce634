-- What a rank knows of its old boxes, and what it tells of them.
use Rattle.std.specs.Prelude.{ℕ, Bool, ◌||◌, nat_eq, List, [], map, filter, cond}
use Rattle.std.specs.List.{flat_map, range_with_len, list_any}
use Rattle.std.specs.Ordering.{is_eq}
use Rattle.samr_level.specs.declared.parts.Move.{Move}
use Rattle.samr_level.specs.Refs.{Owned, Link}
use Rattle.samr_level.specs.RefOrders.{ref_cmp, in_order}
use Rattle.samr_modify.specs.declared.entries.Replaced.{Replaced}
use Rattle.samr_modify.specs.Modify.{Modifying, old_pair}

-- the moves of the old boxes that a rank owns
unfoldable pub moves_of : ℕ → List Move → List Move
moves_of rank moves = filter (λ m. nat_eq m.old.owner rank) moves

-- the edges that leave a box
unfoldable pub edges_of : Owned → List Link → List Link
edges_of b edges = filter (λ e. is_eq (ref_cmp e.base b)) edges

-- an old box, its new boxes in level order, and its edges
abbrev pub entry : List Link → Move → Replaced
entry edges m = record { old = m.old; news = in_order ref_cmp m.news; edges = edges_of m.old edges }

unfoldable pub entries : Modifying → ℕ → List Replaced
entries w rank = map (λ m. entry (old_pair w rank).back.edges m) (moves_of rank w.moves)

-- what all ranks know, one after another
abbrev pub all_entries : Modifying → List Replaced
all_entries w = flat_map (λ rank. entries w rank) (range_with_len 0 w.ranks)

-- a rank owns one of some boxes, and the head of one of some edges
abbrev pub owns_one : ℕ → List Owned → Bool
owns_one rank boxes = list_any (λ b. nat_eq b.owner rank) boxes

abbrev pub owns_head : ℕ → List Link → Bool
owns_head rank edges = list_any (λ e. nat_eq e.head.owner rank) edges

-- an old box has to do with a rank that owns the head of one of its edges or one of its new boxes
abbrev pub concerns : ℕ → Replaced → Bool
concerns rank r = owns_head rank r.edges || owns_one rank r.news

-- what a rank is told of it: all its new boxes, and its edges where the rank owns one of the new boxes
abbrev pub shown : ℕ → Replaced → Replaced
shown rank r = record { old = r.old; news = r.news; edges = cond (owns_one rank r.news) r.edges [] }

unfoldable pub told_to : ℕ → List Replaced → List Replaced
told_to rank rs = map (λ r. shown rank r) (filter (λ r. concerns rank r) rs)

-- A whole list of boxes, balanced.
use Rattle.std.specs.Prelude.{ℕ, ◌+◌, ◌*◌, ◌-◌, ◌/◌, List, map}
use Rattle.std.specs.List.{flat_map, range_with_len}
use Rattle.samr_level.specs.Refs.{Owned}
use Rattle.samr_level.specs.Levels.{own}
use Rattle.samr_load.specs.Pieces.{Placed, whole, load}
use Rattle.samr_load.specs.Ascent.{Balancing}
use Rattle.samr_load.specs.Descent.{pieces_of}

-- a rank's share of so many cells; the shares of the ranks differ by one at most, and add up
abbrev pub quota_of : ℕ → ℕ → ℕ → ℕ
quota_of cells ranks rank = cells * (rank + 1) / ranks - cells * rank / ranks

-- the number of cells of a list of boxes
abbrev pub cells_in : List Owned → ℕ
cells_in boxes = load (map whole boxes)

-- each rank has at first the boxes that it owns
abbrev pub balancing_by : (ℕ → ℕ) → ℕ → ℕ → List Owned → Balancing
balancing_by quota ranks smallest boxes = record {
  ranks = ranks;
  smallest = smallest;
  quota = quota;
  own = λ rank. map whole (own rank boxes);
}

abbrev pub balancing : ℕ → ℕ → List Owned → Balancing
balancing ranks smallest boxes = balancing_by (quota_of (cells_in boxes) ranks) ranks smallest boxes

-- the pieces of all ranks, one rank after another
abbrev pub all_pieces : Balancing → List Placed
all_pieces b = flat_map (pieces_of b) (range_with_len 0 b.ranks)

-- the level that they are
abbrev pub owned_by : ℕ → Placed → Owned
owned_by rank q = record { owner = rank; bx = q.bx }

abbrev pub balanced : ℕ → ℕ → List Owned → List Owned
balanced ranks smallest boxes =
    flat_map (λ rank. map (owned_by rank) (pieces_of (balancing ranks smallest boxes) rank)) (range_with_len 0 ranks)

-- A list of boxes balanced over all ranks, and what the owner of a box learns of its pieces.
use Rattle.std.specs.Prelude.{◌≡◌, ℕ, ◌<◌, ◌^◌, List, map}
use Rattle.std.specs.List.{flat_map, range_with_len}
use Rattle.samr_box.specs.Corners.{Corners}
use Rattle.samr_level.specs.Refs.{Owned}
use Rattle.samr_level.specs.RefOrders.{ref_cmp}
use Rattle.samr_level.specs.Levels.{own}
use Rattle.samr_level.specs.declared.parts.Move.{Move}
use Rattle.samr_tree.specs.Tree.{bottom}
use Rattle.samr_load.specs.Pieces.{Placed, sorted, of_origin}
use Rattle.samr_load.specs.Ascent.{Balancing}
use Rattle.samr_load.specs.Descent.{pieces_of}
use Rattle.samr_load.specs.Balanced.{balancing_by, owned_by, cells_in}
use Rattle.samr_load.specs.Laws.{AreOwned, boxes_of}
use Rattle.samr_balance.specs.declared.homed.Homed.{Homed}
use Rattle.samr_balance.specs.Rounds.{going_down}

-- the boxes with the ranks that own them, the fewest planes of a part, and how many cells each rank is to have
pub record Homes : Type 0 where
  pub ranks : ℕ
  pub smallest : ℕ
  pub quota : ℕ → ℕ
  pub boxes : List Owned

abbrev pub balancing_of : Homes → Balancing
balancing_of w = balancing_by w.quota w.ranks w.smallest w.boxes

-- the pieces that a rank has in the end
abbrev pub pieces_in : Homes → ℕ → List Placed
pieces_in w rank = pieces_of (balancing_of w) rank

-- what becomes of a box: its pieces on all ranks, with their owners, in level order
abbrev pub news_on : Homes → Owned → ℕ → List Owned
news_on w old rank = map (owned_by rank) (of_origin old (pieces_in w rank))

unfoldable pub news_of : Homes → Owned → List Owned
news_of w old = sorted ref_cmp (flat_map (news_on w old) (range_with_len 0 w.ranks))

abbrev pub move_of : Homes → Owned → Move
move_of w old = record { old = old; news = news_of w old }

-- a rank's boxes in level order, and its part of the result
abbrev pub olds_of : Homes → ℕ → List Owned
olds_of w rank = sorted ref_cmp (own rank w.boxes)

unfoldable pub homed_of : Homes → ℕ → Homed
homed_of w rank = record {
  pieces = pieces_in w rank;
  mapping = record { entries = map (move_of w) (olds_of w rank) };
}

-- boxes that are not empty, owned by the ranks, with fewer cells than fit
pub record AreHomes (w : Homes) : Type 0 where
  pub some : 0 < w.smallest
  pub owned : AreOwned w.ranks w.boxes
  pub cells : cells_in w.boxes < 2 ^ 63

-- a rank's part: the hand that it has after the way down, and its boxes
pub record IsHome (rank ranks : ℕ) (hand : List Placed) (cuts : List Corners) (w : Homes) (r : ℕ) : Type 0 where
  pub same_rank : rank ≡ r
  pub same_ranks : ranks ≡ w.ranks
  pub within : r < w.ranks
  pub same_hand : hand ≡ (going_down (record { balancing = balancing_of w; round = bottom w.ranks }) r).pieces
  pub same_cuts : cuts ≡ boxes_of (own r w.boxes)
  pub homes : AreHomes w

-- the same once the rank has its pieces and its boxes in order
pub record HasPieces (rank ranks : ℕ) (pieces : List Placed) (olds : List Owned) (w : Homes) (r : ℕ) : Type 0 where
  pub same_rank : rank ≡ r
  pub same_ranks : ranks ≡ w.ranks
  pub within : r < w.ranks
  pub same_pieces : pieces ≡ pieces_in w r
  pub same_olds : olds ≡ olds_of w r
  pub homes : AreHomes w

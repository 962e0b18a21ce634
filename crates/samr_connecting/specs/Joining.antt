-- What a rank makes of the overlaps with its pieces, and of the pieces themselves: those of the new level.
use Rattle.std.specs.Prelude.{◌≡◌, ℕ, List, map}
use Rattle.samr_box.specs.declared.vector.IVec.{IVec}
use Rattle.samr_box.specs.Vector.{times}
use Rattle.samr_box.specs.Corners.{Corners}
use Rattle.samr_level.specs.declared.parts.Pair.{Pair}
use Rattle.samr_level.specs.Refs.{Owned}
use Rattle.samr_level.specs.RefOrders.{ref_cmp, in_order}
use Rattle.samr_level.specs.Refined.{refined_box, base_refined, head_refined}
use Rattle.samr_modify.specs.Pieces.{Piece}
use Rattle.samr_bridge.specs.Bridge.{Bridging, IsOwned}
use Rattle.samr_bridge.specs.Found.{east_pair, west_pair}
use Rattle.samr_mesh.specs.Domains.{area_of}
use Rattle.samr_msg.specs.Places.{AtPass}

-- a piece of a rank, as a box of the new level
abbrev pub new_box : ℕ → IVec → Piece → Owned
new_box rank step n = refined_box step (record { owner = rank; bx = n.bx })

-- the new boxes of a rank, in corner order, each once
unfoldable pub own_news : ℕ → IVec → List Piece → List Corners
own_news rank step pieces = map (λ b. b.bx) (in_order ref_cmp (map (new_box rank step) pieces))

-- the overlaps of two levels, seen from the other one
abbrev pub turned_pair : Pair → Pair
turned_pair e = record { forth = e.back; back = e.forth }

-- the overlaps of the new level with the level below it, from those of the level with the pieces
unfoldable pub refined_pair : IVec → Pair → Pair
refined_pair step e = record {
  forth = record {
    width = e.back.width;
    base_ratio = times e.back.base_ratio step;
    head_ratio = e.back.head_ratio;
    edges = map (base_refined step) e.back.edges;
  };
  back = record {
    width = e.forth.width;
    base_ratio = e.forth.base_ratio;
    head_ratio = times e.forth.head_ratio step;
    edges = map (head_refined step) e.forth.edges;
  };
}

-- a bridge of a pass, of which a rank has both sides
pub record HasSides (east west : Pair) (w : AtPass) (r : ℕ) (b : Bridging) : Type 0 where
  pub owned : IsOwned b
  pub same_ranks : w.pass.ranks ≡ b.ranks
  pub same_frame : (area_of w.at.setting.problem).frame ≡ b.frame
  pub same_width : w.at.setting.problem.width ≡ b.width
  pub same_east : east ≡ east_pair b r
  pub same_west : west ≡ west_pair b r

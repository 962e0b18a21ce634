-- What a rank has of a modification: before it starts, and once it has started.
use Rattle.std.specs.Prelude.{◌≡◌, ℕ, ◌<◌, Some, List, map, length}
use Rattle.std.specs.List.{range_with_len, slice_get}
use Rattle.samr_box.specs.declared.vector.IVec.{IVec}
use Rattle.samr_box.specs.Vector.{greatest, InRange}
use Rattle.samr_box.specs.Space.{Space, IsSpace, finer}
use Rattle.samr_box.specs.Lists.{Member}
use Rattle.samr_level.specs.declared.parts.Move.{Move}
use Rattle.samr_level.specs.declared.parts.Mapping.{Mapping}
use Rattle.samr_level.specs.declared.parts.Pair.{Pair}
use Rattle.samr_level.specs.Refs.{Link}
use Rattle.samr_level.specs.Overlaps.{Scale}
use Rattle.samr_modify.specs.declared.entries.Replaced.{Replaced}
use Rattle.samr_modify.specs.Pieces.{Piece}
use Rattle.samr_modify.specs.Modify.{Modifying, IsOwned, old_pair, forth_scale, back_scale}
use Rattle.samr_modify.specs.Entries.{moves_of, entries}
use Rattle.samr_modify.specs.ModifyRow.{addressed, awaited, others}

-- a rank owns a new box, and another rank its old box
abbrev pub IsPiece : Modifying → ℕ → Piece → Type 0
IsPiece w rank p = (m : Move) × Member m w.moves × (m.old.owner ≡ p.old_owner) × Member (record { owner = rank; bx = p.bx }) m.news

-- the new boxes that a rank owns, in any order
pub record ArePieces (w : Modifying) (rank : ℕ) (pieces : List Piece) : Type 0 where
  pub only : (p : Piece) → Member p pieces → IsPiece w rank p
  pub all : (p : Piece) → IsPiece w rank p → Member p pieces

-- its pair of anchors and old boxes, the moves of its old boxes, its new boxes, and the frame of level 0
pub record HasParts (rank ranks : ℕ) (frame : Space) (anchor : Pair) (moves : List Move) (pieces : List Piece) (w : Modifying) (r : ℕ) : Type 0 where
  pub owned : IsOwned w
  pub same_rank : rank ≡ r
  pub same_ranks : ranks ≡ w.ranks
  pub within : r < w.ranks
  pub same_frame : frame ≡ w.frame
  pub same_anchor : anchor ≡ old_pair w r
  pub same_moves : moves ≡ moves_of r w.moves
  pub are_pieces : ArePieces w r pieces

-- its edges from anchors to old boxes, what it knows of its old boxes, whom it tells of them, and who tells it
pub record HasEntries (rank : ℕ) (width anchor_ratio old_ratio : IVec) (forth back : Scale) (edges : List Link) (known : List Replaced)
    (addressees senders : List ℕ) (w : Modifying) (r : ℕ) : Type 0 where
  pub owned : IsOwned w
  pub same_rank : rank ≡ r
  pub within : r < w.ranks
  pub same_width : width ≡ w.width
  pub same_anchor : anchor_ratio ≡ w.anchor_ratio
  pub same_old : old_ratio ≡ w.old_ratio
  pub same_forth : forth ≡ forth_scale w
  pub same_back : back ≡ back_scale w
  pub same_edges : edges ≡ (old_pair w r).forth.edges
  pub same_entries : known ≡ entries w r
  pub same_addressees : addressees ≡ others r (addressed w r)
  pub same_senders : senders ≡ others r (awaited w r)

-- what all ranks have, in order of rank
pub record HaveAllParts (frame : Space) (anchors : List Pair) (mappings : List Mapping) (pieces : List (List Piece)) (w : Modifying) : Type 0 where
  pub owned : IsOwned w
  pub same_frame : frame ≡ w.frame
  pub same_anchors : anchors ≡ map (λ rank. old_pair w rank) (range_with_len 0 w.ranks)
  pub same_mappings : mappings ≡ map (λ rank. record { entries = moves_of rank w.moves }) (range_with_len 0 w.ranks)
  pub same_ranks : length pieces ≡ w.ranks
  pub are_pieces : (rank : ℕ) (own : List Piece) → slice_get pieces rank ≡ Some own → ArePieces w rank own
  pub width : InRange w.width
  pub finer_frame : IsSpace (finer w.frame (greatest w.anchor_ratio w.old_ratio))

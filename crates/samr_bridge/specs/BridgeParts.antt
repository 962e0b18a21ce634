-- What a rank has of a bridge: before the bridge starts, and once it has searched.
use Rattle.std.specs.Prelude.{◌≡◌, ℕ, ◌<◌, List, map}
use Rattle.std.specs.List.{range_with_len}
use Rattle.samr_box.specs.declared.vector.IVec.{IVec}
use Rattle.samr_box.specs.Vector.{greatest}
use Rattle.samr_box.specs.Space.{Space, IsSpace, finer}
use Rattle.samr_level.specs.declared.parts.Pair.{Pair}
use Rattle.samr_level.specs.Refs.{Link}
use Rattle.samr_bridge.specs.Bridge.{Bridging, IsOwned}
use Rattle.samr_bridge.specs.Found.{east_pair, west_pair, found}
use Rattle.samr_bridge.specs.BridgeRow.{from_centre, to_centre, other_owners}

-- its pairs of east and centre and of centre and west, and the frame of level 0
pub record HasPairs (rank ranks : ℕ) (frame : Space) (east west : Pair) (width : IVec) (w : Bridging) (r : ℕ) : Type 0 where
  pub owned : IsOwned w
  pub same_rank : rank ≡ r
  pub same_ranks : ranks ≡ w.ranks
  pub within : r < w.ranks
  pub same_frame : frame ≡ w.frame
  pub same_east : east ≡ east_pair w r
  pub same_west : west ≡ west_pair w r
  pub same_width : width ≡ w.width

-- what it finds, whom it tells of it, and who tells it
pub record HasFound (rank : ℕ) (width east_ratio west_ratio : IVec) (edges : List Link) (addressees senders : List ℕ) (w : Bridging) (r : ℕ) : Type 0 where
  pub owned : IsOwned w
  pub same_rank : rank ≡ r
  pub within : r < w.ranks
  pub same_width : width ≡ w.width
  pub same_east : east_ratio ≡ w.east_ratio
  pub same_west : west_ratio ≡ w.west_ratio
  pub same_edges : edges ≡ found w r
  pub same_addressees : addressees ≡ other_owners r (from_centre w r)
  pub same_senders : senders ≡ other_owners r (to_centre w r)

-- what all ranks have, in order of rank
pub record HaveAllPairs (frame : Space) (east west : List Pair) (width : IVec) (w : Bridging) : Type 0 where
  pub owned : IsOwned w
  pub same_frame : frame ≡ w.frame
  pub same_east : east ≡ map (λ rank. east_pair w rank) (range_with_len 0 w.ranks)
  pub same_west : west ≡ map (λ rank. west_pair w rank) (range_with_len 0 w.ranks)
  pub same_width : width ≡ w.width
  pub finer_frame : IsSpace (finer w.frame (greatest w.east_ratio w.west_ratio))

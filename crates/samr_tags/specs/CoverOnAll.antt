-- What all ranks have of a cover at first.
use Rattle.std.specs.Prelude.{◌≡◌, ℕ, List, length, map, slice_get, Some}
use Rattle.std.specs.List.{range_with_len}
use Rattle.samr_box.specs.declared.vector.IVec.{IVec}
use Rattle.samr_box.specs.Space.{Space, IsSpace}
use Rattle.samr_level.specs.declared.parts.Pair.{Pair}
use Rattle.samr_level.specs.Levels.{own_boxes}
use Rattle.samr_sign.specs.Fields.{Field, AreTags}
use Rattle.samr_tags.specs.declared.cover.Cover.{Cover}
use Rattle.samr_tags.specs.Cover.{Covering, AreOwned, frame_of}
use Rattle.samr_tags.specs.CoverParts.{down_pair, HasNeeds}

-- the tags of each rank's boxes and its overlaps, in order of rank
pub record HaveAllCovers (frame : Space) (fields : List (List Field)) (overlaps : List Pair) (nest upper lower : IVec) (w : Covering) : Type 0 where
  pub owned : AreOwned w
  pub same_frame : frame ≡ w.frame
  pub same_ranks : length fields ≡ w.ranks
  pub same_tags : (rank : ℕ) (own : List Field) → slice_get fields rank ≡ Some own → AreTags (own_boxes rank w.level) w.tags own
  pub same_covers : overlaps ≡ map (λ rank. down_pair w rank) (range_with_len 0 w.ranks)
  pub same_nest : nest ≡ w.nest
  pub same_upper : upper ≡ w.upper
  pub same_lower : lower ≡ w.lower
  pub finer_frame : IsSpace (frame_of w)

-- stages of all ranks that know what their boxes need
pub record AreAllNeeds (w : Covering) (stages : List Cover) : Type 0 where
  pub count : length stages ≡ w.ranks
  pub each : (rank : ℕ) (s : Cover) → slice_get stages rank ≡ Some s
      → HasNeeds s.rank s.needs s.fields s.edges.items s.addressees.items s.senders.items w rank

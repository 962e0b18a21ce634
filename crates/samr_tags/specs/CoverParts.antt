-- What a rank has before the stage `Cover`, while it waits, and in the end.
use Rattle.std.specs.Prelude.{◌≡◌, ℕ, ◌<◌, Bool, ◌&&◌, ◌||◌, List, map}
use Rattle.std.specs.List.{All, list_any}
use Rattle.samr_box.specs.declared.vector.IVec.{IVec}
use Rattle.samr_box.specs.Corners.{Corners, holds}
use Rattle.samr_box.specs.Space.{Space}
use Rattle.samr_box.specs.Lists.{Member}
use Rattle.samr_stage.specs.declared.stage.Held.{Held}
use Rattle.samr_level.specs.declared.parts.Pair.{Pair}
use Rattle.samr_level.specs.Refs.{Link}
use Rattle.samr_level.specs.Pairs.{pair}
use Rattle.samr_level.specs.Levels.{own_boxes}
use Rattle.samr_sign.specs.Fields.{Field, tagged, AreTags}
use Rattle.samr_peers.specs.Peers.{other_owners}
use Rattle.samr_tags.specs.declared.needs.Needs.{Needs}
use Rattle.samr_tags.specs.Cover.{Covering, AreOwned, fine_ratio, downs, ups}
use Rattle.samr_tags.specs.CoverRow.{rule_of, HasRoom}

-- a cell lies in a box that the rank needs itself or that a letter tells
abbrev pub is_needed : List Corners → List (Held (List Corners)) → IVec → Bool
is_needed own held x = list_any (λ b. holds b x) own || list_any (λ letter. list_any (λ b. holds b x) letter.body) held

-- its overlaps of the fine level with the level
abbrev pub down_pair : Covering → ℕ → Pair
down_pair w rank = pair w.frame w.width (fine_ratio w) w.ratio w.fine w.level rank

-- fields with cells added that a test picks, in their order
pub record AreAdded (old new : List Field) (added : IVec → Bool) : Type 0 where
  pub same_boxes : map (λ f. f.bx) new ≡ map (λ f. f.bx) old
  pub cells : (tags : IVec → Bool) → ((f : Field) (x : IVec) → Member f old → tagged f x ≡ (holds f.bx x && tags x))
      → (f : Field) (x : IVec) → Member f new → tagged f x ≡ (holds f.bx x && (tags x || added x))

-- what a rank has at first: the tags of its boxes, and its overlaps
pub record HasCovers (rank ranks : ℕ) (frame : Space) (fields : List Field) (overlaps : Pair) (nest upper lower : IVec) (w : Covering) (r : ℕ) : Type 0 where
  pub owned : AreOwned w
  pub same_rank : rank ≡ r
  pub same_ranks : ranks ≡ w.ranks
  pub within : r < w.ranks
  pub same_frame : frame ≡ w.frame
  pub same_tags : AreTags (own_boxes r w.level) w.tags fields
  pub same_pair : overlaps ≡ down_pair w r
  pub same_nest : nest ≡ w.nest
  pub same_upper : upper ≡ w.upper
  pub same_lower : lower ≡ w.lower

-- what it has once it knows what its boxes need
pub record HasNeeds (rank : ℕ) (needs : Needs) (fields : List Field) (edges : List Link) (addressees senders : List ℕ) (w : Covering) (r : ℕ) : Type 0 where
  pub owned : AreOwned w
  pub same_rank : rank ≡ r
  pub within : r < w.ranks
  pub same_rule : needs ≡ rule_of w
  pub room : All (HasRoom needs) edges
  pub same_tags : AreTags (own_boxes r w.level) w.tags fields
  pub same_edges : edges ≡ downs w r
  pub same_addressees : addressees ≡ other_owners r (downs w r)
  pub same_senders : senders ≡ other_owners r (ups w r)

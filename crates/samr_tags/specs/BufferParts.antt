-- What a rank has before the stage `Buffer`, and while it waits.
use Rattle.std.specs.Prelude.{◌≡◌, ℕ, ◌<◌, pos, Bool, List}
use Rattle.samr_box.specs.declared.vector.IVec.{IVec}
use Rattle.samr_box.specs.Vector.{alike, AtMost, InRange}
use Rattle.samr_box.specs.Corners.{Corners, Holds}
use Rattle.samr_box.specs.Space.{Space}
use Rattle.samr_box.specs.Lists.{Member}
use Rattle.samr_level.specs.declared.parts.Pair.{Pair}
use Rattle.samr_level.specs.Refs.{Owned}
use Rattle.samr_level.specs.Levels.{own_boxes}
use Rattle.samr_level.specs.Pairs.{pair}
use Rattle.samr_peers.specs.Peers.{other_owners}
use Rattle.samr_tags.specs.declared.seen.Seen.{Seen}
use Rattle.samr_tags.specs.Buffer.{Tagging, IsOwned, space, selves}
use Rattle.samr_tags.specs.BufferRow.{all_seen}

-- its overlaps of the level with itself
abbrev pub self_pair : Tagging → ℕ → Pair
self_pair w rank = pair w.frame w.width w.ratio w.ratio w.level w.level rank

-- what a rank has at first: its boxes and overlaps, and which of its cells a shape tags
pub record HasSelves (rank ranks : ℕ) (frame : Space) (boxes : List Corners) (overlaps : Pair) (shape : IVec → Bool) (buffer : IVec) (w : Tagging) (r : ℕ) : Type 0 where
  pub owned : IsOwned w
  pub same_rank : rank ≡ r
  pub same_ranks : ranks ≡ w.ranks
  pub within : r < w.ranks
  pub same_frame : frame ≡ w.frame
  pub same_boxes : boxes ≡ own_boxes r w.level
  pub same_selves : overlaps ≡ self_pair w r
  pub same_buffer : buffer ≡ w.buffer
  pub same_shape : (b : Owned) (x : IVec) → Member b w.level → b.owner ≡ r → Holds b.bx x → shape x ≡ w.shape x

-- what it has once it has asked which cells are tagged
pub record HasSeen (rank : ℕ) (frame : Space) (buffer : IVec) (boxes : List Corners) (own : List Seen) (peers : List ℕ) (w : Tagging) (r : ℕ) : Type 0 where
  pub owned : IsOwned w
  pub same_rank : rank ≡ r
  pub within : r < w.ranks
  pub same_frame : frame ≡ space w
  pub same_buffer : buffer ≡ w.buffer
  pub low : AtMost (alike (pos 0)) buffer
  pub range : InRange buffer
  pub same_boxes : boxes ≡ own_boxes r w.level
  pub same_own : own ≡ all_seen w r
  pub same_peers : peers ≡ other_owners r (selves w r)

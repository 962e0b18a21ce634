-- What all ranks have before the stage `Buffer`, in order of rank.
use Rattle.std.specs.Prelude.{◌≡◌, Bool, List, map}
use Rattle.std.specs.List.{range_with_len}
use Rattle.samr_box.specs.declared.vector.IVec.{IVec}
use Rattle.samr_box.specs.Corners.{Holds}
use Rattle.samr_box.specs.Space.{Space, IsSpace}
use Rattle.samr_box.specs.Lists.{Member}
use Rattle.samr_level.specs.declared.parts.Part.{Part}
use Rattle.samr_level.specs.declared.parts.Pair.{Pair}
use Rattle.samr_level.specs.Refs.{Owned}
use Rattle.samr_level.specs.Pairs.{part}
use Rattle.samr_tags.specs.Buffer.{Tagging, IsOwned, space}
use Rattle.samr_tags.specs.BufferParts.{self_pair}

-- what all ranks have at first, in order of rank
pub record HaveAllSelves (frame : Space) (parts : List Part) (overlaps : List Pair) (shape : IVec → Bool) (buffer : IVec) (w : Tagging) : Type 0 where
  pub owned : IsOwned w
  pub same_frame : frame ≡ w.frame
  pub same_parts : parts ≡ map (λ rank. part w.level rank) (range_with_len 0 w.ranks)
  pub same_selves : overlaps ≡ map (λ rank. self_pair w rank) (range_with_len 0 w.ranks)
  pub same_buffer : buffer ≡ w.buffer
  pub same_shape : (b : Owned) (x : IVec) → Member b w.level → Holds b.bx x → shape x ≡ w.shape x
  pub finer_frame : IsSpace (space w)

-- The fields of a rank's boxes from what it has for them and what letters have.
use Rattle.std.specs.Prelude.{◌≡◌, ℕ, Bool, ◌&&◌, ◌||◌, List, map}
use Rattle.std.specs.List.{list_any}
use Rattle.samr_box.specs.declared.vector.IVec.{IVec}
use Rattle.samr_box.specs.Corners.{Corners, holds}
use Rattle.samr_box.specs.Space.{Space}
use Rattle.samr_box.specs.Lists.{Member}
use Rattle.samr_stage.specs.declared.stage.Held.{Held}
use Rattle.samr_level.specs.Refs.{Owned}
use Rattle.samr_sign.specs.Fields.{Field, tagged}
use Rattle.samr_tags.specs.declared.seen.Seen.{Seen}
use Rattle.samr_tags.specs.Seeing.{marked_by}

-- some of what the rank has, or some of what letters have, marks the cell for a box
abbrev pub marked_at : Space → IVec → Owned → List Seen → List (Held (List Seen)) → IVec → Bool
marked_at d buffer a own held x = marked_by d buffer a own x || list_any (λ letter. marked_by d buffer a letter.body x) held

pub record AreMarked (d : Space) (buffer : IVec) (rank : ℕ) (own : List Seen) (held : List (Held (List Seen))) (boxes : List Corners) (fields : List Field) : Type 0 where
  pub same_boxes : map (λ f. f.bx) fields ≡ boxes
  pub cells : (f : Field) (x : IVec) → Member f fields → tagged f x ≡ (holds f.bx x && marked_at d buffer (record { owner = rank; bx = f.bx }) own held x)

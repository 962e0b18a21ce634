-- New boxes, as their owners have them.
use Rattle.std.specs.Prelude.{ℕ, List, map}
use Rattle.std.specs.List.{flat_map}
use Rattle.samr_box.specs.Corners.{Corners}
use Rattle.samr_level.specs.declared.parts.Move.{Move}
use Rattle.samr_level.specs.Refs.{Owned}
use Rattle.samr_level.specs.Levels.{own}

-- a new box, and the rank that owns the old box whose place it takes
pub record Piece : Type 0 where
  pub bx : Corners
  pub old_owner : ℕ

-- those that a rank owns, in the order of the moves
abbrev pub piece : ℕ → Owned → Piece
piece old_owner b = record { bx = b.bx; old_owner = old_owner }

unfoldable pub pieces_of : ℕ → List Move → List Piece
pieces_of rank moves = flat_map (λ m. map (λ b. piece m.old.owner b) (own rank m.news)) moves

-- What a rank makes of its part of a balance.
use Rattle.std.specs.Prelude.{List, []}
use Rattle.std.specs.List.{flat_map, find}
use Rattle.std.specs.Option.{option_map_or}
use Rattle.std.specs.Ordering.{is_eq}
use Rattle.samr_level.specs.declared.parts.Move.{Move}
use Rattle.samr_level.specs.Refs.{Owned}
use Rattle.samr_level.specs.RefOrders.{ref_cmp}
use Rattle.samr_load.specs.Pieces.{Placed}
use Rattle.samr_modify.specs.Pieces.{Piece}

-- what takes the place of a box by some moves
abbrev pub news_in : List Move → Owned → List Owned
news_in moves old = option_map_or (λ m. m.news) (find (λ m. is_eq (ref_cmp m.old old)) moves) []

-- and what becomes of a cluster, where they are of what the cut leaves of it
abbrev pub moved : List Move → Move → Move
moved moves cut = record { old = cut.old; news = flat_map (news_in moves) cut.news }

-- a piece as a new box
abbrev pub new_box : Placed → Piece
new_box q = record { bx = q.bx; old_owner = q.origin.owner }

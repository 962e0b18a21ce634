-- What a rank keeps of the levels of one domain and of their overlaps.
use Rattle.std.specs.Prelude.{ℕ, List, ◌++◌, map, filter, not, nat_eq}
use Rattle.std.specs.Ordering.{nat_cmp}
use Rattle.samr_box.specs.declared.vector.IVec.{IVec}
use Rattle.samr_box.specs.Space.{Space}
use Rattle.samr_level.specs.declared.parts.Part.{Part}
use Rattle.samr_level.specs.declared.parts.Connector.{Connector}
use Rattle.samr_level.specs.declared.parts.Pair.{Pair}
use Rattle.samr_level.specs.Refs.{Owned}
use Rattle.samr_level.specs.RefOrders.{in_order}
use Rattle.samr_level.specs.Levels.{own}
use Rattle.samr_level.specs.Overlaps.{scale, true_overlaps, of_rank}

-- its part of a level
abbrev pub part : List Owned → ℕ → Part
part level rank = record { rank = rank; boxes = map (λ b. b.bx) (own rank level) }

-- the connector of a rank from one level to another, at a width in cells of the coarser one
abbrev pub connector : Space → IVec → IVec → IVec → List Owned → List Owned → ℕ → Connector
connector frame width base_ratio head_ratio bases heads rank = record {
  width = width;
  base_ratio = base_ratio;
  head_ratio = head_ratio;
  edges = of_rank rank (true_overlaps (scale frame width base_ratio head_ratio) bases heads);
}

-- this connector and the one back
abbrev pub pair : Space → IVec → IVec → IVec → List Owned → List Owned → ℕ → Pair
pair frame width base_ratio head_ratio bases heads rank = record {
  forth = connector frame width base_ratio head_ratio bases heads rank;
  back = connector frame width head_ratio base_ratio heads bases rank;
}

-- the other ranks that own a head of one of them
abbrev pub peers : Pair → ℕ → List ℕ
peers p rank = in_order nat_cmp (filter (λ r. not (nat_eq r rank)) (map (λ e. e.head.owner) (p.forth.edges ++ p.back.edges)))

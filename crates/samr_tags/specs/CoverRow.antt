-- The letters of the stage `Cover`: what the ranks of fine boxes tell those of the boxes below.
use Rattle.std.specs.Prelude.{ℕ, Bool, ◌&&◌, nat_eq, List, map, filter, Option}
use Rattle.samr_box.specs.declared.vector.IVec.{IVec}
use Rattle.samr_box.specs.Corners.{Corners, IsBox, grown, meets}
use Rattle.samr_box.specs.Ratios.{coarsened}
use Rattle.samr_box.specs.Orders.{corner_cmp}
use Rattle.samr_box.specs.Space.{Space, image, opposite}
use Rattle.samr_level.specs.Refs.{Link}
use Rattle.samr_level.specs.RefOrders.{in_order}
use Rattle.samr_peers.specs.Peers.{peer_row}
use Rattle.samr_tags.specs.declared.needs.Needs.{Needs}
use Rattle.samr_tags.specs.Cover.{Covering, frame_of, covering, downs}

-- how a box needs what is below it
abbrev pub rule : Space → IVec → IVec → IVec → Needs
rule frame upper nest lower = record { frame = frame; upper = upper; nest = nest; lower = lower }

abbrev pub rule_of : Covering → Needs
rule_of w = rule (frame_of w) w.upper w.nest w.lower

-- what an edge's base needs, where its head stands
abbrev pub below_head : Needs → Link → Corners
below_head n e = image n.frame (covering n.upper n.nest n.lower e.base.bx) (opposite e.shift)

-- the numbers of these boxes are in range
pub record HasRoom (n : Needs) (e : Link) : Type 0 where
  pub grown : IsBox (grown (coarsened e.base.bx n.upper) n.nest)
  pub moved : IsBox (below_head n e)

-- what edges need of the boxes of a rank, in corner order, each once
abbrev pub is_below : Needs → ℕ → Link → Bool
is_below n rank e = nat_eq e.head.owner rank && meets (below_head n e) e.head.bx

unfoldable pub needed_of : Needs → ℕ → List Link → List Corners
needed_of n rank edges = in_order corner_cmp (map (λ e. below_head n e) (filter (λ e. is_below n rank e) edges))

abbrev pub needed_by : Covering → ℕ → ℕ → List Corners
needed_by w from to = needed_of (rule_of w) to (downs w from)

-- a rank tells each other owner of a head of its edges, also where it needs nothing
unfoldable pub cover_row : Covering → ℕ → ℕ → Option (List Corners)
cover_row w = peer_row w.ranks (downs w) (needed_by w)

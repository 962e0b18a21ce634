-- The lists with which the nest cut begins, in a whole frame and in parts; and what its callers have at hand.
use Rattle.std.specs.Prelude.{ℕ, pos, Bool, ◌↔◌, filter, List, ◌≡◌, false, IsTrue, [], ◌∷◌, length, ◌<◌}
use Rattle.std.specs.List.{filter_map}
use Rattle.samr_box.specs.declared.vector.Axis.{Axis}
use Rattle.samr_box.specs.declared.vector.IVec.{IVec}
use Rattle.samr_box.specs.Vector.{alike, AtMost}
use Rattle.samr_box.specs.Corners.{Corners, IsBox, Meet, holds_box, met, grown}
use Rattle.samr_box.specs.Space.{Space, whole, flag}
use Rattle.std.specs.List.Sorted.{IsStrictlySortedBy}
use Rattle.samr_box.specs.Lists.{Member}
use Rattle.samr_level.specs.Refs.{Owned, Link}
use Rattle.samr_level.specs.RefOrders.{ref_cmp}
use Rattle.samr_level.specs.Regions.{Area}
use Rattle.samr_level.specs.Overlaps.{Scale, true_overlaps, of_rank}
use Rattle.samr_level.specs.Neighbours.{IsWidth}
use Rattle.samr_nest.specs.Starts.{needed, inner, clipped}

-- in the whole frame: a box that meets it, clipped on physical axes, and the cluster itself
abbrev pub StartsInTheFrame : Type 0
StartsInTheFrame =
    (d : Space) (b c : Corners) → AtMost b.lo b.hi → Meet b (whole d) → AtMost c.lo c.hi → IsTrue (holds_box (whole d) c)
    → (let a : Area = record { frame = d; parts = [] } in (needed a b ≡ clipped d b ∷ []) × (inner a c ≡ c ∷ []))

-- in parts, where no axis is periodic: what the box and the cluster have in common with them, in their order
abbrev pub StartsInParts : Type 0
StartsInParts =
    (a : Area) (b c : Corners) → 0 < length a.parts → ((axis : Axis) → flag axis a.frame.periodic ≡ false)
    → (needed a b ≡ filter_map (λ p. met p b) a.parts) × (inner a c ≡ filter_map (λ p. met p c) a.parts)

-- of a rank's connector from clusters to a level, the edges that begin at a cluster are all its edges
abbrev pub EdgesOfOneCluster : Type 0
EdgesOfOneCluster =
    (n : Scale) (clusters level : List Owned) (rank : ℕ) (c : Owned) (starts_at : Link → Bool)
    → IsStrictlySortedBy ref_cmp clusters → IsStrictlySortedBy ref_cmp level → Member c clusters → c.owner ≡ rank
    → ((e : Link) → IsTrue (starts_at e) ↔ (e.base ≡ c))
    → filter starts_at (of_rank rank (true_overlaps n clusters level)) ≡ true_overlaps n (c ∷ []) level

-- in a frame of at most 2^29 cells on each axis a cluster grown by a nest width is a box
abbrev pub SmallFramesLeaveRoom : Type 0
SmallFramesLeaveRoom =
    (d : Space) (nest : IVec) (c : Corners) → AtMost d.size (alike (pos 536870912)) → IsWidth d nest → IsBox c
    → IsTrue (holds_box (whole d) c) → IsBox (grown c nest)

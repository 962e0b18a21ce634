-- The connectors of all ranks between two levels are transposes of each other.
use Rattle.std.proofs.Common.{ℕ, ◌<◌, refl}
use Rattle.std.specs.Prelude.{List}
use Rattle.samr_box.specs.declared.vector.IVec.{IVec}
use Rattle.samr_box.specs.Space.{Space}
use Rattle.samr_box.specs.Lists.{Member}
use Rattle.samr_level.specs.Refs.{Owned, Link, turned}
use Rattle.samr_level.specs.Overlaps.{scale, true_overlaps, of_rank}
use Rattle.samr_level.proofs.Overlapping.{Member-overlaps, Member-from_overlaps, Member-of_rank, Member-from_of_rank, turn}
use Rattle.samr_peers.specs.Peers.{TurnsInto, AreTransposes}

-- the edges of a rank from one level to another
abbrev pub edges_of : Space → IVec → IVec → IVec → List Owned → List Owned → ℕ → List Link
edges_of frame width base_ratio head_ratio bases heads rank = of_rank rank (true_overlaps (scale frame width base_ratio head_ratio) bases heads)

pub turns_into : (frame : Space) (width a b : IVec) (bases heads : List Owned) (ranks : ℕ) → ((h : Owned) → Member h heads → h.owner < ranks)
    → TurnsInto ranks (edges_of frame width a b bases heads) (edges_of frame width b a heads bases)
turns_into frame width a b bases heads ranks own rank e m =
    let there = scale frame width a b in
    let back = scale frame width b a in
    let f = Member-from_of_rank rank (true_overlaps there bases heads) e m in
    let h = Member-from_overlaps there bases heads e f.0 in
    let t = turn frame width a b bases heads e h in
    (f.1, own e.head h.is_head, Member-of_rank e.head.owner (true_overlaps back heads bases) (turned e) (Member-overlaps back heads bases (turned e) t) refl)

pub pair_turns : (frame : Space) (width a b : IVec) (bases heads : List Owned) (ranks : ℕ)
    → ((h : Owned) → Member h bases → h.owner < ranks) → ((h : Owned) → Member h heads → h.owner < ranks)
    → AreTransposes ranks (edges_of frame width a b bases heads) (edges_of frame width b a heads bases)
pair_turns frame width a b bases heads ranks own_bases own_heads = record {
  forth = turns_into frame width a b bases heads ranks own_heads;
  home = turns_into frame width b a heads bases ranks own_bases;
}

-- of a level with itself one connector is both
pub self_turns : (frame : Space) (width a : IVec) (level : List Owned) (ranks : ℕ) → ((h : Owned) → Member h level → h.owner < ranks)
    → AreTransposes ranks (edges_of frame width a a level level) (edges_of frame width a a level level)
self_turns frame width a level ranks own = pair_turns frame width a a level level ranks own own

-- The row of a stage whose ranks tell the other owners of heads of their edges.
use Rattle.std.specs.Prelude.{◌≡◌, ℕ, ◌<◌, Bool, ◌&&◌, not, nat_eq, nat_lt, List, map, filter, Option, Some, None, if◌then◌else◌}
use Rattle.std.specs.List.{list_any}
use Rattle.std.specs.Ordering.{nat_cmp}
use Rattle.samr_box.specs.Lists.{Member}
use Rattle.samr_level.specs.Refs.{Link, turned}
use Rattle.samr_level.specs.RefOrders.{in_order}

-- whether a rank owns the head of an edge, and the other ranks that do, ascending, each once
abbrev pub owns_head : ℕ → List Link → Bool
owns_head rank edges = list_any (λ e. nat_eq e.head.owner rank) edges

unfoldable pub other_owners : ℕ → List Link → List ℕ
other_owners rank edges = in_order nat_cmp (filter (λ r. not (nat_eq r rank)) (map (λ e. e.head.owner) edges))

-- whether a rank tells another: that owns a head of its edges
abbrev pub tells : ℕ → (ℕ → List Link) → ℕ → ℕ → Bool
tells ranks edges from to = nat_lt from ranks && (nat_lt to ranks && (not (nat_eq to from) && owns_head to (edges from)))

-- the row: a body for each that is told, also where nothing is in it
unfoldable pub peer_row : {B : Type 0} → ℕ → (ℕ → List Link) → (ℕ → ℕ → B) → ℕ → ℕ → Option B
peer_row ranks edges body from to = if tells ranks edges from to then Some (body from to) else None

-- the edges that the ranks have one way are, seen from their heads, among those that they have the other way
abbrev pub TurnsInto : ℕ → (ℕ → List Link) → (ℕ → List Link) → Type 0
TurnsInto ranks there back =
    (rank : ℕ) (e : Link) → Member e (there rank) → (e.base.owner ≡ rank) × (e.head.owner < ranks) × Member (turned e) (back e.head.owner)

-- both ways
pub record AreTransposes (ranks : ℕ) (there back : ℕ → List Link) : Type 0 where
  pub forth : TurnsInto ranks there back
  pub home : TurnsInto ranks back there

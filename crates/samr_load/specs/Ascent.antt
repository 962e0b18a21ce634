-- The way up the tree of the ranks: what each rank gives its parent, or needs of it.
use Rattle.std.specs.Prelude.{ℕ, zero, suc, ◌+◌, ◌-◌, List, [], ◌++◌, Option, Some, None}
use Rattle.samr_tree.specs.Tree.{first_child, second_child}
use Rattle.samr_load.specs.Pieces.{Placed, load}
use Rattle.samr_load.specs.Taking.{parted}

-- how many ranks, the fewest planes of a part, what each rank is to have, and what it has at first
pub record Balancing : Type 0 where
  pub ranks : ℕ
  pub smallest : ℕ
  pub quota : ℕ → ℕ
  pub own : ℕ → List Placed

-- a rank on the way up: its own pieces with those of its children, the cells that it wants for itself and for them, what it
-- keeps, what it gives its parent, and the cells that it needs of it
pub record Climb : Type 0 where
  pub hand : List Placed
  pub wanted : ℕ
  pub kept : List Placed
  pub given : List Placed
  pub need : ℕ

-- it gives what it has too many
abbrev pub climb : ℕ → List Placed → ℕ → Climb
climb smallest hand wanted =
    let p = parted smallest hand (load hand - wanted) in
    record { hand = hand; wanted = wanted; kept = p.rest; given = p.taken; need = wanted - load hand }

-- a rank with two children
abbrev pub joined : Balancing → ℕ → Climb → Climb → Climb
joined b rank first second =
    climb b.smallest (b.own rank ++ first.given ++ second.given) (b.quota rank + first.need + second.need)

-- in place of a child that there is not
abbrev pub nobody : Climb
nobody = record { hand = []; wanted = 0; kept = []; given = []; need = 0 }

-- a rank, if there is one, over so many ranks of its part of the tree as are enough
abbrev pub up_to : Balancing → ℕ → Option ℕ → Climb
up_to b most None = nobody
up_to b zero (Some rank) = nobody
up_to b (suc most) (Some rank) =
    joined b rank (up_to b most (first_child b.ranks rank)) (up_to b most (second_child b.ranks rank))

-- the whole way
unfoldable pub up_of : Balancing → Option ℕ → Climb
up_of b rank = up_to b b.ranks rank

abbrev pub up : Balancing → ℕ → Climb
up b rank = up_of b (Some rank)

-- what a rank has after the way up; rank 0 gives nothing
abbrev pub stayed : Balancing → ℕ → List Placed
stayed b zero = (up b 0).hand
stayed b (suc rank) = (up b (suc rank)).kept

-- The way down the tree of the ranks: what each rank gives its children, and what is left to it.
use Rattle.std.specs.Prelude.{ℕ, zero, suc, ◌%◌, nat_eq, cond, List, [], ◌++◌, Option, Some, None, option_map}
use Rattle.samr_tree.specs.Tree.{parent, first_child, second_child}
use Rattle.samr_load.specs.Pieces.{Placed, piece_cmp, sorted}
use Rattle.samr_load.specs.Taking.{Parted, parted}
use Rattle.samr_load.specs.Ascent.{Balancing, up_of, stayed}

-- a rank on the way down: what it gives its first and its second child, and what is left
pub record Fall : Type 0 where
  pub first : List Placed
  pub second : List Placed
  pub left : List Placed

-- what a child that needs so many cells is given of a hand: what a take gives. One that needs nothing is no step of the way
-- down, and the hand stays as it is
abbrev pub given : ℕ → List Placed → ℕ → Parted
given smallest hand need = cond (nat_eq need 0) (record { taken = []; rest = hand }) (parted smallest hand need)

-- it gives its first child what this needs, and then its second
abbrev pub fall : ℕ → List Placed → ℕ → ℕ → Fall
fall smallest hand first second =
    let p = given smallest hand first in
    let q = given smallest p.rest second in
    record { first = p.taken; second = q.taken; left = q.rest }

-- a rank that was given some pieces
abbrev pub fall_of : Balancing → ℕ → List Placed → Fall
fall_of b rank got =
    fall b.smallest (stayed b rank ++ got) (up_of b (first_child b.ranks rank)).need (up_of b (second_child b.ranks rank)).need

-- what a rank is given by its parent, if it has one
abbrev pub share : ℕ → Option Fall → List Placed
share rank None = []
share rank (Some f) = cond (nat_eq (rank % 2) 1) f.first f.second

-- over so many ranks above it as are enough, and the whole way
abbrev pub down_from : Balancing → ℕ → ℕ → Fall
down_from b zero rank = fall_of b rank []
down_from b (suc most) rank = fall_of b rank (share rank (option_map (down_from b most) (parent rank)))

unfoldable pub down : Balancing → ℕ → Fall
down b rank = down_from b rank rank

-- what a rank is given
abbrev pub got : Balancing → ℕ → List Placed
got b rank = share rank (option_map (down b) (parent rank))

-- the pieces of a rank in the end
abbrev pub pieces_of : Balancing → ℕ → List Placed
pieces_of b rank = sorted piece_cmp (down b rank).left

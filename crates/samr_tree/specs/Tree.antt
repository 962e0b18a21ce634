-- The tree of the ranks: rank 0 is its root, and the children of a rank r are 2r + 1 and 2r + 2.
use Rattle.std.specs.Prelude.{ℕ, zero, suc, ◌+◌, ◌-◌, ◌*◌, ◌/◌, Bool, ◌&&◌, nat_eq, nat_lt, Option, Some, None, if◌then◌else◌}

-- the parent of a rank; rank 0 has none
abbrev pub parent : ℕ → Option ℕ
parent rank = if nat_lt 0 rank then Some ((rank - 1) / 2) else None

-- the two children of a rank, where there are so many ranks
abbrev pub first_child : ℕ → ℕ → Option ℕ
first_child ranks rank = if nat_lt (2 * rank + 1) ranks then Some (2 * rank + 1) else None

abbrev pub second_child : ℕ → ℕ → Option ℕ
second_child ranks rank = if nat_lt (2 * rank + 2) ranks then Some (2 * rank + 2) else None

-- how many steps up it is from a rank to rank 0, or so many as are taken
abbrev pub steps_up : ℕ → ℕ → ℕ
steps_up zero rank = 0
steps_up (suc most) rank = if nat_lt 0 rank then steps_up most ((rank - 1) / 2) + 1 else 0

-- the depth of a rank: it is no more steps up than its number
unfoldable pub depth : ℕ → ℕ
depth rank = steps_up rank rank

-- the depth of the last rank, which is the greatest
abbrev pub bottom : ℕ → ℕ
bottom ranks = depth (ranks - 1)

-- going up, the ranks of one depth after another tell their parents, from the bottom
abbrev pub tells_up : ℕ → ℕ → ℕ → Bool
tells_up ranks round rank = nat_lt 0 rank && (nat_lt rank ranks && nat_eq (depth rank + round) (bottom ranks))

-- going down, the ranks of one depth after another are told by their parents, from the root's children on
abbrev pub told_down : ℕ → ℕ → ℕ → Bool
told_down ranks round rank = nat_lt 0 rank && (nat_lt rank ranks && nat_eq (depth rank) (round + 1))

-- One round of the way down: ranks give their children what these need, if they need anything.
use Rattle.std.specs.Prelude.{ℕ, ◌-◌, ◌/◌, ◌&&◌, ◌||◌, ℤ, List, Bool, nat_eq, nat_lt, Option, Some, None, if◌then◌else◌}
use Rattle.samr_tree.specs.Tree.{depth, told_down}
use Rattle.samr_load.specs.Pieces.{Placed}
use Rattle.samr_load.specs.Ascent.{up}
use Rattle.samr_load.specs.Descent.{got}
use Rattle.samr_balance.specs.declared.hands.Needs.{Needs}
use Rattle.samr_balance.specs.declared.hands.Hand.{Hand}
use Rattle.samr_balance.specs.Rounds.{Round, next, needs_of, going_down, IsPart}

-- a rank is told in the round of its parent's depth, if it needs something
abbrev pub is_given : Round → ℕ → Bool
is_given w rank = told_down w.balancing.ranks w.round rank && nat_lt 0 (up w.balancing rank).need

unfoldable pub down_row : Round → ℕ → ℕ → Option (List Placed)
down_row w from to = if (is_given w to && nat_eq ((to - 1) / 2) from) then Some (got w.balancing to) else None

-- a rank visits the round of its depth if a child needs something, and the one before if it needs something itself
abbrev pub needs_any : Needs → Bool
needs_any needs = nat_lt 0 needs.first || nat_lt 0 needs.second

abbrev pub visits_down : Round → ℕ → Bool
visits_down w rank = (nat_eq (depth rank) w.round && needs_any (needs_of w.balancing rank)) || is_given w rank

-- what a rank has once it has given, and after the round
abbrev pub gave_down : Round → ℕ → Hand
gave_down w rank = if nat_eq (depth rank) w.round then going_down (next w) rank else going_down w rank

abbrev pub after_down : Round → ℕ → Hand
after_down w rank = going_down (next w) rank

-- a rank's part of the round, before it gives and after
abbrev pub IsDown : ℕ → ℕ → ℕ → List Placed → Needs → ℕ → ℤ → Round → ℕ → Type 0
IsDown rank ranks round pieces needs quota smallest w r =
    IsPart rank ranks round pieces needs quota smallest (going_down w r) w r

abbrev pub HasGivenDown : ℕ → ℕ → ℕ → List Placed → Needs → ℕ → ℤ → Round → ℕ → Type 0
HasGivenDown rank ranks round pieces needs quota smallest w r =
    IsPart rank ranks round pieces needs quota smallest (gave_down w r) w r

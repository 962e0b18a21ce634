-- One round of the way up: ranks give their parents what they have too much, and tell them what they need.
use Rattle.std.specs.Prelude.{ℕ, ◌+◌, ◌*◌, ◌-◌, ◌/◌, ◌%◌, ◌&&◌, ◌||◌, ℤ, List, Bool, nat_eq, Option, Some, None, if◌then◌else◌}
use Rattle.samr_stage.specs.declared.stage.Held.{Held}
use Rattle.samr_tree.specs.Tree.{tells_up}
use Rattle.samr_load.specs.Pieces.{Placed}
use Rattle.samr_load.specs.Ascent.{Balancing, up}
use Rattle.samr_balance.specs.declared.hands.Needs.{Needs}
use Rattle.samr_balance.specs.declared.hands.Hand.{Hand}
use Rattle.samr_balance.specs.declared.hands.Gift.{Gift}
use Rattle.samr_balance.specs.Rounds.{Round, next, going_up, IsPart}

-- what a rank gives its parent
abbrev pub gift : Balancing → ℕ → Gift
gift b rank = record { pieces = (up b rank).given; need = (up b rank).need }

unfoldable pub up_row : Round → ℕ → ℕ → Option Gift
up_row w from to =
    if (tells_up w.balancing.ranks w.round from && nat_eq ((from - 1) / 2) to) then Some (gift w.balancing from) else None

-- a rank visits the round in which it tells its parent, and the one in which a child tells it
abbrev pub visits_up : Round → ℕ → Bool
visits_up w rank =
    tells_up w.balancing.ranks w.round rank
    || (tells_up w.balancing.ranks w.round (2 * rank + 1) || tells_up w.balancing.ranks w.round (2 * rank + 2))

-- what a rank has once it has given, and after the round
abbrev pub gave_up : Round → ℕ → Hand
gave_up w rank = if tells_up w.balancing.ranks w.round rank then going_up (next w) rank else going_up w rank

abbrev pub after_up : Round → ℕ → Hand
after_up w rank = going_up (next w) rank

-- the needs with that of one more child
abbrev pub with_need : Needs → Held Gift → Needs
with_need needs letter =
    if nat_eq (letter.sender % 2) 1 then record { first = letter.body.need; second = needs.second }
    else record { first = needs.first; second = letter.body.need }

-- a rank's part of the round, before it gives and after
abbrev pub IsUp : ℕ → ℕ → ℕ → List Placed → Needs → ℕ → ℤ → Round → ℕ → Type 0
IsUp rank ranks round pieces needs quota smallest w r =
    IsPart rank ranks round pieces needs quota smallest (going_up w r) w r

abbrev pub HasGivenUp : ℕ → ℕ → ℕ → List Placed → Needs → ℕ → ℤ → Round → ℕ → Type 0
HasGivenUp rank ranks round pieces needs quota smallest w r =
    IsPart rank ranks round pieces needs quota smallest (gave_up w r) w r

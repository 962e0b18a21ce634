-- The sum over all ranks: round by round up the tree, and down it again, one label for each round.
use Rattle.std.specs.Prelude.{ℕ, zero, suc, ◌+◌, ◌*◌, ◌<◌, ◌^◌, List, ◌++◌, length, slice_index, sum, Bool, ◌||◌, nat_eq, nat_lt, if◌then◌else◌}
use Rattle.samr_stage.specs.declared.label.Label.{Label}
use Rattle.samr_stage.specs.Course.{Course}
use Rattle.samr_stage.specs.Fragments.{Fragment, composed, rounds}
use Rattle.samr_tree.specs.Tree.{bottom, tells_up, told_down}
use Rattle.samr_tree.specs.SumUp.{Sums, sum_row, summed}
use Rattle.samr_tree.specs.TellDown.{Tellings, tell_row, informed}

-- the labels of a round of going up and of going down
abbrev pub up_label : ℕ → Label
up_label round = record { step = 0; pass = 0; phase = 5; round = round }

abbrev pub down_label : ℕ → Label
down_label round = record { step = 0; pass = 0; phase = 6; round = round }

-- how many rounds go up, one for each depth, and how many go down
abbrev pub rounds_up : List ℕ → ℕ
rounds_up values = bottom (length values) + 1

abbrev pub rounds_down : List ℕ → ℕ
rounds_down values = bottom (length values)

-- the ranks' numbers before a round of going up: their own at first, and then what the round before left
abbrev pub sums_at : List ℕ → ℕ → Sums
sums_at values zero = record { ranks = length values; round = 0; number = λ rank. slice_index values rank }
sums_at values (suc round) =
    record { ranks = length values; round = suc round; number = summed (sums_at values round) }

-- the ranks' numbers before a round of going down: at first rank 0 has what came up, and the others have 0
abbrev pub tellings_at : List ℕ → ℕ → Tellings
tellings_at values zero =
    record { ranks = length values; round = 0; number = λ rank. if nat_lt 0 rank then 0 else (sums_at values (rounds_up values)).number rank }
tellings_at values (suc round) =
    record { ranks = length values; round = suc round; number = informed (tellings_at values round) }

-- a rank visits a round of going up where it tells its parent, where a child tells it, and where it is alone
abbrev pub goes_up : ℕ → ℕ → ℕ → Bool
goes_up ranks round rank =
    tells_up ranks round rank || (tells_up ranks round (2 * rank + 1) || (tells_up ranks round (2 * rank + 2) || nat_eq ranks 1))

-- a rank visits a round of going down where its parent tells it, and where it tells a child
abbrev pub goes_down : ℕ → ℕ → ℕ → Bool
goes_down ranks round rank =
    told_down ranks round rank || (told_down ranks round (2 * rank + 1) || told_down ranks round (2 * rank + 2))

-- a round of the run: its label, the ranks that visit it, and its letters
abbrev pub up_fragment : List ℕ → ℕ → Fragment ℕ
up_fragment values round =
    record { label = up_label round; visits = goes_up (length values) round; row = sum_row (sums_at values round) }

abbrev pub down_fragment : List ℕ → ℕ → Fragment ℕ
down_fragment values round =
    record { label = down_label round; visits = goes_down (length values) round; row = tell_row (tellings_at values round) }

-- the rounds of a run, up and then down
unfoldable pub tree_fragments : List ℕ → List (Fragment ℕ)
tree_fragments values =
    rounds (up_fragment values) 0 (rounds_up values) ++ rounds (down_fragment values) 0 (rounds_down values)

-- the course of a sum of these values, one of each rank
unfoldable pub tree_course : List ℕ → Course ℕ
tree_course values = composed (length values) (tree_fragments values)

-- values of ranks whose numbers and whose sum fit
pub record AreSummable (values : List ℕ) : Type 0 where
  pub some : 0 < length values
  pub few : length values < 2 ^ 16
  pub fits : sum values < 2 ^ 64

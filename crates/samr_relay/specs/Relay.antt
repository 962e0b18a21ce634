-- A relay: in each round one rank tells others the number of the round, counted from one, and each adds up what it is told.
use Rattle.std.specs.Prelude.{ℕ, ◌+◌, ◌/◌, ◌%◌, ◌^◌, ◌<◌, Bool, true, ◌&&◌, not, nat_eq, nat_lt, Option, Some, None, if◌then◌else◌, map, sum_by, ⊤}
use Rattle.std.specs.List.{range_with_len}
use Rattle.samr_stage.specs.declared.label.Label.{Label}
use Rattle.samr_stage.specs.Course.{Course}
use Rattle.samr_relay.specs.declared.run.Pattern.{Pattern}
use Rattle.samr_relay.specs.declared.run.Pattern.TheVariants.{Ring, Flood}
use Rattle.samr_relay.specs.declared.run.RelayRun.{RelayRun}

-- the label of a round
abbrev pub round_label : ℕ → Label
round_label round = record { step = 0; pass = 0; phase = 0; round = round }

-- whose turn it is in a round: in a ring the ranks tell one after another, in a flood each tells in so many rounds
abbrev pub turn : Pattern → ℕ → ℕ
turn Ring round = round
turn (Flood each) round = round / each

-- the rank that tells in a round
unfoldable pub teller : RelayRun → ℕ → ℕ
teller run round = turn run.pattern round % run.ranks

-- whom a pattern has told in a round: in a ring the next rank, in a flood every rank
abbrev pub reaches : Pattern → ℕ → ℕ → ℕ → Bool
reaches Ring ranks round to = nat_eq to ((round + 1) % ranks)
reaches (Flood each) ranks round to = true

-- a rank is told in a round; none tells itself
unfoldable pub hears : RelayRun → ℕ → ℕ → Bool
hears run round to =
    nat_lt to run.ranks && (not (nat_eq to (teller run round)) && reaches run.pattern run.ranks round to)

-- the number that one rank tells another in a round
unfoldable pub relay_row : RelayRun → ℕ → ℕ → ℕ → Option ℕ
relay_row run round from to =
    if (nat_eq from (teller run round) && hears run round to) then Some (round + 1) else None

-- a label is that of one of the run's rounds
unfoldable pub is_round : RelayRun → Label → Bool
is_round run at =
    nat_eq at.step 0 && (nat_eq at.pass 0 && (nat_eq at.phase 0 && nat_lt at.round run.rounds))

-- the course of a relay: every rank visits every round
unfoldable pub relay_course : RelayRun → Course ℕ
relay_course run = record {
  ranks = run.ranks;
  labels = λ _. map round_label (range_with_len 0 run.rounds);
  letter = λ n. if is_round run n.label then relay_row run n.label.round n.sender n.addressee else None;
}

-- what a rank is told in a round, in the first rounds, and in all of them
abbrev pub told_in : RelayRun → ℕ → ℕ → ℕ
told_in run rank round = if hears run round rank then round + 1 else 0

unfoldable pub told_before : RelayRun → ℕ → ℕ → ℕ
told_before run rank rounds = sum_by (told_in run rank) (range_with_len 0 rounds)

abbrev pub told_sum : RelayRun → ℕ → ℕ
told_sum run rank = told_before run rank run.rounds

-- the ranks of a flood tell in some rounds
abbrev pub HasTurns : Pattern → Type 0
HasTurns Ring = ⊤
HasTurns (Flood each) = 0 < each

-- a run of some ranks, in rounds that 32 bits count
pub record IsRelay (run : RelayRun) : Type 0 where
  pub some : 0 < run.ranks
  pub few : run.rounds < 2 ^ 32
  pub turns : HasTurns run.pattern

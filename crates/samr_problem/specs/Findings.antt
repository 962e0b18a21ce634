-- What the program finds on its walk over the places: the fault that is told first.
use Rattle.std.specs.Prelude.{ℕ, ◌+◌, List, [], ◌∷◌, ◌==◌, nat_le, Option, Some, None, if◌then◌else◌, option_map}
use Rattle.samr_problem.specs.declared.finding.Finding.{Finding}
use Rattle.samr_problem.specs.declared.finding.Place.{Place}
use Rattle.samr_problem.specs.declared.finding.Place.TheVariants.{Top, Table}
use Rattle.samr_problem.specs.declared.finding.Unknown.{Unknown}
use Rattle.samr_problem.specs.declared.keys.Fault.{Fault}
use Rattle.samr_problem.specs.declared.refusal.Refusal.{Refusal}
use Rattle.samr_problem.specs.Faults.{all_faults, has_fault}
use Rattle.samr_problem.specs.Refusals.{refusal_at}
use Rattle.samr_problem.specs.Slots.{Slot, path}

-- the number of a fault in the order in which faults are told, and the place that has it
pub record Found : Type 0 where
  pub rank : ℕ
  pub shown : List ℕ

-- how a name of a table is shown
abbrev pub shown_in : Place → List ℕ → List ℕ
shown_in Top name = name
shown_in (Table list n) name = path list.now n name

abbrev pub found_of : Finding → Found
found_of f = record { rank = f.rank; shown = shown_in f.place f.name.now }

-- how an unknown name is shown
abbrev pub unknown_text : Unknown → List ℕ
unknown_text u = shown_in u.place u.name.now

-- the first option, or else the second
abbrev pub or_else : {A : Type 0} → Option A → Option A → Option A
or_else None later = later
or_else (Some x) later = Some x

-- the number of the first fault that a place has, counted from n
abbrev pub rank_from : ℕ → List Fault → Slot → Option ℕ
rank_from n [] s = None
rank_from n (fault ∷ later) s = if has_fault fault s then Some n else rank_from (n + 1) later s

-- what is found at a place
unfoldable pub found_at : Slot → Option Found
found_at s = option_map (λ rank. record { rank = rank; shown = s.shown }) (rank_from 0 all_faults s)

-- the one of two findings that is told first: of equal ones the earlier
abbrev pub or_worse : Option Found → Option Found → Option Found
or_worse None later = later
or_worse (Some a) None = Some a
or_worse (Some a) (Some b) = if nat_le a.rank b.rank then Some a else Some b

-- of the findings at some places the one that is told first
abbrev pub least : List Slot → Option Found
least [] = None
least (s ∷ ss) = or_worse (found_at s) (least ss)

-- the cause that a rank is
abbrev pub cause_at : ℕ → ℕ
cause_at rank = if rank == 0 then 4 else (if rank == 1 then 5 else (if rank == 2 then 6 else (if rank == 3 then 7 else 6)))

-- the refusal that a finding is
abbrev pub refusal_of : Found → Refusal
refusal_of f = refusal_at (cause_at f.rank) f.shown

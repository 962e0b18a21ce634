-- Faults of a report, and the first of some.
use Rattle.std.specs.Prelude.{ℕ, Bool, nat_lt, nat_le, ◌&&◌, ◌||◌, not, Option, Some, None, List, if◌then◌else◌, fold}
use Rattle.samr_verify.specs.declared.fault.Fault.{Fault}

-- by line, then by kind
abbrev pub comes_first : Fault → Fault → Bool
comes_first a b = nat_lt a.line b.line || (not (nat_lt b.line a.line) && nat_le a.kind b.kind)

-- the earlier of two, if there is one
abbrev pub or_earlier : Option Fault → Option Fault → Option Fault
or_earlier None b = b
or_earlier (Some f) None = Some f
or_earlier (Some f) (Some g) = if comes_first f g then Some f else Some g

-- the first of some, if there is one
abbrev pub first_of : List (Option Fault) → Option Fault
first_of faults = fold or_earlier None faults

-- a fault of a kind at a line, unless a test holds
abbrev pub unless : Bool → ℕ → ℕ → Option Fault
unless test kind line = if test then None else Some (record { kind = kind; line = line })

-- What a status tells of the answer and of what the sink holds.
use Rattle.std.specs.Prelude.{◌≡◌, ℕ, List, Option}
use Rattle.std.specs.Io.KnownBytes.{Appends}
use Rattle.samr_io.specs.Transfers.{AppendsFront}
use Rattle.samr_run.specs.declared.answer.Ending.{Ending}
use Rattle.samr_run.specs.declared.answer.Ending.TheVariants as ending
use Rattle.samr_run.specs.declared.plain.Status.{Status}
use Rattle.samr_run.specs.declared.plain.Status.TheVariants.{Done, Words, Refused, ReadFault, WriteFault, Memory}
use Rattle.samr_run.specs.Answer.{Answer}

-- the status of a run that ends so
abbrev pub status_of : Ending → Status
status_of ending.Done = Done
status_of ending.Words = Words
status_of ending.Refused = Refused

-- the exit status of the program
abbrev pub status_number : Status → ℕ
status_number Done = 0
status_number Words = 2
status_number Refused = 3
status_number ReadFault = 4
status_number WriteFault = 5
status_number Memory = 6

-- what the sink holds before and after a run with this answer and this status: the whole text where
-- nothing failed, nothing of it where a read failed, else a front of it
abbrev pub Written : Answer → Status → Option (List ℕ) → Option (List ℕ) → Type 0
Written a Done old new = (a.ending ≡ ending.Done) × Appends old new a.text
Written a Words old new = (a.ending ≡ ending.Words) × Appends old new a.text
Written a Refused old new = (a.ending ≡ ending.Refused) × Appends old new a.text
Written a ReadFault old new = new ≡ old
Written a WriteFault old new = AppendsFront old new a.text
Written a Memory old new = AppendsFront old new a.text

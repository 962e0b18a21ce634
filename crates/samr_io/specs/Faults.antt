-- What a count of faults tells: it never falls, and it rises at each fault and at nothing else.
use Rattle.std.specs.Prelude.{◌≡◌, ℕ, ◌+◌, ◌-◌, ◌^◌, ◌<◌, ◌≤◌, min, List, length, Bool, ◌==◌, Result, OnOk, OnErr, IfOk, IsErrOf}
use Rattle.std.specs.List.{list_any}
use Rattle.samr_io.specs.declared.failed.ReadError.{ReadError}
use Rattle.samr_io.specs.declared.failed.ReadError.TheVariants.{NoMemory, Failed}

-- one more, of a count of 64 bits that stops at its end
abbrev pub next_count : ℕ → ℕ
next_count n = min (n + 1) (2 ^ 64 - 1)

-- the count rose, or stands at its end
abbrev pub Rose : ℕ → ℕ → Type 0
Rose before now = next_count before ≤ now

-- the count rose by one
abbrev pub RoseByOne : ℕ → ℕ → Type 0
RoseByOne before now = now ≡ next_count before

-- a call that fails raised the count by one, and one that does not fail left it
pub record HasCause {T E : Type 0} (before now : ℕ) (result : Result T E) : Type 0 where
  pub later : before ≤ now
  pub failed : OnErr result (RoseByOne before now)
  pub kept : OnOk result (now ≡ before)

-- a write that took no byte of a piece that has one
abbrev pub IsStall : ℕ → List ℕ → Type 0
IsStall taken piece = (taken ≡ 0) × (0 < length piece)

-- a write that fails or stalls raised the count by one, and any other left it
pub record HasWriteCause {E : Type 0} (before now : ℕ) (result : Result ℕ E) (piece : List ℕ) : Type 0 where
  pub later : before ≤ now
  pub failed : OnErr result (RoseByOne before now)
  pub stalled : IfOk result (λ taken. IsStall taken piece → RoseByOne before now)
  pub kept : IfOk result (λ taken. ¬ (IsStall taken piece) → now ≡ before)

-- one read failed and the count rose by one, or none did and it is as it was
pub record HasReadCause {T : Type 0} (before now : ℕ) (result : Result T ReadError) : Type 0 where
  pub later : before ≤ now
  pub failed : IsErrOf result Failed → RoseByOne before now
  pub kept : OnOk result (now ≡ before)
  pub without_memory : IsErrOf result NoMemory → now ≡ before

-- the numbers of the calls that are planned to fail have this one
abbrev pub is_planned : List ℕ → ℕ → Bool
is_planned fails call = list_any (λ n. n == call) fails

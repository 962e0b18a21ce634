-- The words of the program, and the command that they are.
use Rattle.std.specs.Prelude.{ℕ, suc, ◌-◌, ◌<◌, ◌≤◌, ◌==◌, List, [], ◌∷◌, length, codes, map, Option, Some, None, if◌then◌else◌, String, string_bytes}
use Rattle.std.specs.declared.alloc.Global.{Global}
use Rattle.std.specs.Fmt.{decimal}
use Rattle.std.specs.List.{find, range_with_len}
use Rattle.std.specs.Option.{option_map}
use Rattle.std.specs.Str.{bytes_eq}
use Rattle.samr_run.specs.declared.words.Command.{Command}
use Rattle.samr_run.specs.declared.words.Command.TheVariants.{Check, Make}

-- the number from `low` to `high` whose decimal digits the text is
unfoldable pub number_between : ℕ → ℕ → List ℕ → Option ℕ
number_between low high text = find (λ n. bytes_eq (decimal n) text) (range_with_len low (suc high - low))

-- the number from `low` to `high` behind a name, of words that are names with their values
abbrev pub number_behind : List ℕ → ℕ → ℕ → List (List ℕ) → Option ℕ
number_behind name low high (first ∷ value ∷ others) =
    if bytes_eq first name then number_between low high value else number_behind name low high others
number_behind name low high _ = None

-- `--ranks N`, with N from 1 to 16
unfoldable pub check_of : List (List ℕ) → Option Command
check_of words = if length words == 2 then option_map Check (number_behind (codes "--ranks") 1 16 words) else None

-- a problem of this seed and size, where both are there
abbrev pub make_by : Option ℕ → Option ℕ → Option Command
make_by (Some seed) (Some size) = Some (Make seed size)
make_by _ _ = None

-- `--seed S` and `--size Z` in either order, with S below 2^32 and Z from 1 to 64
unfoldable pub make_of : List (List ℕ) → Option Command
make_of words =
    if length words == 4 then make_by (number_behind (codes "--seed") 0 4294967295 words) (number_behind (codes "--size") 1 64 words) else None

-- a command and its names with their values, each name once
unfoldable pub command_of : List (List ℕ) → Option Command
command_of (command ∷ others) =
    if bytes_eq command (codes "check") then check_of others else if bytes_eq command (codes "make") then make_of others else None
command_of [] = None

-- at least one rank; a size that a problem can be made of
abbrev pub IsCommand : Command → Type 0
IsCommand (Check ranks) = 0 < ranks
IsCommand (Make seed size) = (1 ≤ size) × (size ≤ 64)

-- the bytes of the words
abbrev pub texts : List (String Global) → List (List ℕ)
texts words = map string_bytes words

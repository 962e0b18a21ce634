-- What a text is: a problem, or its first fault.
use Rattle.std.specs.Prelude.{◌≡◌, ℕ, List, not, length, nat_lt, Result, Ok, Err, if◌then◌else◌}
use Rattle.std.specs.Option.{option_map_or}
use Rattle.std.specs.Str.{is_utf8}
use Rattle.toml.specs.Data.{Members}
use Rattle.toml.specs.Parse.{parse_document}
use Rattle.samr_problem.specs.declared.refusal.Refusal.{Refusal}
use Rattle.samr_problem.specs.declared.refusal.Unread.{Unread}
use Rattle.samr_problem.specs.declared.refusal.Unread.TheVariants.{Refused, NoMemory}
use Rattle.samr_problem.specs.Refusals.{first, plain}
use Rattle.samr_problem.specs.Fields.{Fields, fields_of}
use Rattle.samr_problem.specs.Faults.{faults, field_faults}

-- some fields, or the first fault of them together
unfoldable pub together_reading : Fields → Result Fields Refusal
together_reading p = option_map_or (λ r. Err r) (first (field_faults p)) (Ok p)

-- the first fault of a document, or its fields where it has none
unfoldable pub document_reading : Members → Result Fields Refusal
document_reading doc = option_map_or (λ r. Err r) (first (faults doc)) (Ok (fields_of doc))

-- the reading of a text as a document, which is refused where it is none
unfoldable pub text_reading : List ℕ → Result Fields Refusal
text_reading text = option_map_or document_reading (parse_document text) (Err (plain 2))

-- a text that is too long, is no UTF-8 or is no document is refused before anything of it is looked at
unfoldable pub reading : List ℕ → Result Fields Refusal
reading text =
    if nat_lt 1048576 (length text) then Err (plain 11)
    else if not (is_utf8 text) then Err (plain 1)
    else text_reading text

-- an answer is the problem or the refusal that the text is, or want of memory
abbrev pub Reads : Result Fields Unread → Result Fields Refusal → Type 0
Reads (Ok p) is = is ≡ Ok p
Reads (Err (Refused r)) is = is ≡ Err r
Reads (Err NoMemory) is = Unit {0}

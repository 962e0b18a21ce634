-- How the notes of the example are spelled and read.
use Rattle.std.specs.Prelude.{ℕ, zero, suc, ◌<◌, ◌≤◌, ◌^◌, Bool, nat_le, List, [], ◌∷◌, ◌++◌, Option, Some, None}
use Rattle.std.specs.Int.{w32, to_be_bytes}
use Rattle.std.specs.List.{AllByRecursion}
use Rattle.samr_formats.specs.declared.example.Span.{Span}
use Rattle.samr_formats.specs.declared.example.Note.{Note}
use Rattle.samr_formats.specs.declared.example.Note.TheVariants.{Stop, Done}
use Rattle.samr_formats.specs.Formats.{read_number, read_pair, read_as, read_only, spell_list, FitsList, read_list}

-- a span: its two ends, of which the first is not beyond the last
unfoldable pub spell_span : Span → List ℕ
spell_span s = to_be_bytes w32 s.first ++ to_be_bytes w32 s.last

pub record FitsSpan (s : Span) : Type 0 where
  pub first : s.first < 2 ^ 32
  pub last : s.last < 2 ^ 32
  pub order : s.first ≤ s.last

abbrev pub is_span : Span → Bool
is_span s = nat_le s.first s.last

abbrev pub span_of : ℕ × ℕ → Span
span_of p = record { first = p.0; last = p.1 }

unfoldable pub read_span : List ℕ → Option (Span × List ℕ)
read_span = read_only is_span (read_as span_of (read_pair (read_number w32) (read_number w32)))

-- a note: its kind in one byte, then what the kind has
unfoldable pub spell_note : Note → List ℕ
spell_note Stop = 0 ∷ []
spell_note (Done spans) = 1 ∷ spell_list spell_span spans

abbrev pub FitsNote : Note → Type 0
FitsNote Stop = Unit {0}
FitsNote (Done spans) = FitsList FitsSpan spans

abbrev pub IsWritable : Note → Type 0
IsWritable Stop = Unit {0}
IsWritable (Done spans) = AllByRecursion (λ s. s.first ≤ s.last) spans

unfoldable pub read_note : List ℕ → Option (Note × List ℕ)
read_note [] = None
read_note (zero ∷ rest) = Some (Stop, rest)
read_note (suc zero ∷ rest) = read_as Done (read_list read_span) rest
read_note (suc (suc n) ∷ rest) = None

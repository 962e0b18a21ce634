-- The notes of the example are read exactly where they are spelled.
use Rattle.std.proofs.Common.{◌≡◌, ℕ, zero, suc, ◌^◌, ◌<◌, List, [], ◌∷◌, ◌++◌, Some, refl, subst, leb-true, le-leb}
use Rattle.std.specs.Int.{w32, to_be_bytes}
use Rattle.samr_formats.specs.declared.example.Span.{Span}
use Rattle.samr_formats.specs.declared.example.Note.{Note}
use Rattle.samr_formats.specs.declared.example.Note.TheVariants.{Stop, Done}
use Rattle.samr_formats.specs.Formats.{IsBytes, Takes, IsFormat, read_number, read_pair, read_as}
use Rattle.samr_formats.specs.Laws.{some_is, IsBytes-rest, format32, pair_format, list_format, only_format, via_format, weaker, kind_takes, kind_again}
use Rattle.samr_formats.specs.Examples.{spell_span, FitsSpan, is_span, span_of, read_span, spell_note, FitsNote, read_note}

abbrev ends_of : Span → ℕ × ℕ
ends_of s = (s.first, s.last)

abbrev AreEnds : Span → Type 0
AreEnds s = (s.first < 2 ^ 32) × (s.last < 2 ^ 32)

ends_format : IsFormat (λ s. to_be_bytes w32 s.first ++ to_be_bytes w32 s.last) AreEnds (read_as span_of (read_pair (read_number w32) (read_number w32)))
ends_format = via_format (pair_format format32 format32) ends_of span_of AreEnds (λ s fits. (fits, refl)) (λ p fits. (fits, refl))

pub span_format : IsFormat spell_span FitsSpan read_span
unfolding spell_span read_span
span_format = weaker (only_format ends_format is_span) FitsSpan
    (λ s h. ((h.first, h.last), le-leb _ _ h.order))
    (λ s h. record { first = h.0.0; last = h.0.1; order = leb-true _ _ h.1 })

note_takes : (bytes : List ℕ) (x : Note) (rest : List ℕ) → IsBytes bytes → read_note bytes ≡ Some (x, rest) → Takes bytes (spell_note x) rest × FitsNote x
unfolding spell_note read_note
note_takes [] x rest ok e = absurd cc
note_takes (zero ∷ bytes) x rest ok e =
    subst (λ (p : Note × List ℕ). Takes (0 ∷ bytes) (spell_note p.0) p.1 × FitsNote p.0) (some_is (Stop, bytes) (x, rest) e) (record { parts = refl; rest_fits = IsBytes-rest 0 bytes ok }, tt)
note_takes (suc zero ∷ bytes) x rest ok e = kind_takes (list_format span_format) Done spell_note FitsNote 1 (λ x. refl) (λ x h. h) 1 bytes x rest refl (IsBytes-rest 1 bytes ok) e
note_takes (suc (suc n) ∷ bytes) x rest ok e = absurd cc

note_again : (x : Note) (rest : List ℕ) → FitsNote x → read_note (spell_note x ++ rest) ≡ Some (x, rest)
unfolding spell_note read_note
note_again Stop rest h = refl
note_again (Done spans) rest h = kind_again (list_format span_format) Done spans rest h

pub note_format : IsFormat spell_note FitsNote read_note
note_format = record { takes = note_takes; again = note_again }

-- one note, written out
pub done_row : spell_note (Done (record { first = 3; last = 500 } ∷ [])) ≡ 1 ∷ 0 ∷ 0 ∷ 0 ∷ 0 ∷ 0 ∷ 0 ∷ 0 ∷ 1 ∷ 0 ∷ 0 ∷ 0 ∷ 3 ∷ 0 ∷ 0 ∷ 1 ∷ 244 ∷ []
unfolding spell_note spell_span
done_row = refl

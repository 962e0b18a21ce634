-- The lines of a text, and what they mean.
use Rattle.std.specs.Prelude.{ℕ, ◌==◌, Option, List, [], ◌∷◌, if◌then◌else◌}
use Rattle.samr_verify.specs.declared.line.Line.{Line}
use Rattle.samr_verify.specs.ReportLines.{IsMeaning}

-- a text as its lines, each with its line feed; what stands behind the last one is a line too
abbrev pub put_before : ℕ → List (List ℕ) → List (List ℕ)
put_before c [] = (c ∷ []) ∷ []
put_before c (line ∷ lines) = (c ∷ line) ∷ lines

unfoldable pub lines_of : List ℕ → List (List ℕ)
lines_of [] = []
lines_of (c ∷ cs) = if c == 10 then (10 ∷ []) ∷ lines_of cs else put_before c (lines_of cs)

pub data AreMeanings (most : ℕ) : List (List ℕ) → List (Option Line) → Type 0 where
  none : AreMeanings most [] []
  more : (text : List ℕ) (o : Option Line) (texts : List (List ℕ)) (os : List (Option Line)) → IsMeaning most text o → AreMeanings most texts os
      → AreMeanings most (text ∷ texts) (o ∷ os)

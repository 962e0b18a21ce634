-- The parts of a line.
use Rattle.std.specs.Prelude.{◌≡◌, ℕ, ℤ, pos, ◌<◌, Option, Some, None, List, [], ◌∷◌, ◌++◌, codes}
use Rattle.std.specs.Fmt.{signed_decimal}
use Rattle.samr_box.specs.declared.vector.IVec.{IVec}
use Rattle.samr_box.specs.Vector.{alike, Between, IsShift}
use Rattle.samr_level.specs.Refs.{Owned}
use Rattle.samr_report.specs.Lines.{blank_numbers}
use Rattle.samr_report.specs.LevelLines.{box_numbers}
use Rattle.samr_report.specs.ScheduleLines.{shift_numbers, headed}
use Rattle.samr_verify.specs.Words.{IsNumber, Part}
use Rattle.samr_verify.specs.declared.line.Line.{Line}
use Rattle.samr_verify.specs.ReportLines.{IsCount, IsPrinted}

-- one behind another, and one behind a word
abbrev pub and_then : Part → Part → Part
and_then p q = record { Told = p.Told × q.Told; IsRight = λ x. p.IsRight x.0 × q.IsRight x.1; print = λ x. p.print x.0 ++ q.print x.1 }

abbrev pub behind_word : List ℕ → Part → Part
behind_word word p = record { Told = p.Told; IsRight = p.IsRight; print = λ x. word ++ p.print x }

-- numbers: without the blank before it, with it, one that is not below 0, that of a level, and three of them
abbrev pub bare : Part
bare = record { Told = ℤ; IsRight = IsNumber; print = signed_decimal }

abbrev pub number : Part
number = record { Told = ℤ; IsRight = IsNumber; print = λ n. blank_numbers (n ∷ []) }

abbrev pub count : Part
count = record { Told = ℕ; IsRight = IsCount; print = λ n. blank_numbers (pos n ∷ []) }

abbrev pub level : ℕ → Part
level most = record { Told = ℕ; IsRight = λ l. l < most; print = λ l. blank_numbers (pos l ∷ []) }

pub record AreNumbers (v : IVec) : Type 0 where
  pub i : IsNumber v.i
  pub j : IsNumber v.j
  pub k : IsNumber v.k

abbrev pub triple : Part
triple = record { Told = IVec; IsRight = AreNumbers; print = λ v. blank_numbers (v.i ∷ v.j ∷ v.k ∷ []) }

-- a width
abbrev pub wide : Part
wide = record { Told = IVec; IsRight = λ w. Between (alike (pos 0)) w (alike (pos 9223372036854775807)); print = λ w. blank_numbers (w.i ∷ w.j ∷ w.k ∷ []) }

-- a box, a shift, and two boxes with a shift
abbrev pub boxed : Part
boxed = record { Told = Owned; IsRight = IsPrinted; print = λ b. blank_numbers (box_numbers b) }

abbrev pub shift : Part
shift = record { Told = IVec; IsRight = IsShift; print = λ s. blank_numbers (shift_numbers s) }

abbrev pub joined : Part
joined = and_then boxed (and_then boxed shift)

-- a field and a number behind a word
abbrev pub heading : List ℕ → Part
heading word = record { Told = ℕ × ℕ; IsRight = λ x. IsCount x.0 × IsCount x.1; print = λ x. headed x.0 word x.1 }

-- no value
abbrev pub silent : Part
silent = record { Told = Unit {0}; IsRight = λ u. Unit {0}; print = λ u. codes " none" }

-- whole lines
abbrev pub first_part : Part
first_part = and_then (behind_word (codes "samr ranks") count) (and_then (behind_word (codes " levels") count) (behind_word (codes " width") wide))

abbrev pub step_part : Part
step_part = behind_word (codes "step") count

abbrev pub level_part : Part
level_part = and_then (behind_word (codes "level") count) (and_then (behind_word (codes " boxes") count) (behind_word (codes " cells") count))

abbrev pub box_part : Part
box_part = and_then (behind_word (codes "box") count) boxed

abbrev pub edge_part : ℕ → Part
edge_part most = and_then (behind_word (codes "edge") (level most)) (and_then (level most) joined)

abbrev pub joined_part : List ℕ → Part
joined_part word = and_then (heading word) (and_then joined count)

abbrev pub counted_part : List ℕ → Part
counted_part word = and_then (heading word) (and_then boxed count)

abbrev pub probe_part : Part
probe_part = and_then (heading (codes "probe")) count

abbrev pub silent_part : Part
silent_part = and_then (heading (codes "probe")) silent

abbrev pub end_part : Part
end_part = record { Told = Unit {0}; IsRight = λ u. Unit {0}; print = λ u. codes "end" }

-- a line of text is one of a kind, by what is told in it, or it is none of this kind
pub record Tells (p : Part) (line : p.Told → Line) (text : List ℕ) (found : Option Line) : Type 0 where
  pub some : (l : Line) → found ≡ Some l → (x : p.Told) × p.IsRight x × (p.print x ++ 10 ∷ [] ≡ text) × (line x ≡ l)
  pub none : found ≡ None → (x : p.Told) → p.IsRight x → p.print x ++ 10 ∷ [] ≡ text → ⊥

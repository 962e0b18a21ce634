-- A tag field as its box and its words: row by row, j fastest, then k, each row beginning a word.
use Rattle.std.specs.Prelude.{◌≡◌, ℕ, ◌+◌, ◌*◌, ◌%◌, ◌^◌, ◌<◌, ◌≤◌, Bool, false, ◌&&◌, List, length, map, count_by}
use Rattle.std.specs.Int.{div_ceil}
use Rattle.std.specs.List.{list_any}
use Rattle.samr_box.specs.declared.vector.Axis.TheVariants.{I, J, K}
use Rattle.samr_box.specs.declared.vector.IVec.{IVec}
use Rattle.samr_box.specs.Corners.{Corners, IsBox, span, holds}
use Rattle.samr_box.specs.Lists.{Member}
use Rattle.samr_bits.specs.Bits.{is_set}
use Rattle.samr_sign.specs.Counts.{offset}

pub record Field : Type 0 where
  pub bx : Corners
  pub words : List ℕ

-- how many words a row has, and how many the box
abbrev pub row_words : Corners → ℕ
row_words b = div_ceil (span I b) 64

abbrev pub words_of : Corners → ℕ
words_of b = span K b * span J b * row_words b

-- the bit of a cell: of row j of plane k, where a plane has so many rows and a row so many bits, and of a cell of a box
abbrev pub place_at : ℕ → ℕ → ℕ → ℕ → ℕ → ℕ
place_at k j i rows bits = (k * rows + j) * bits + i

abbrev pub place : Corners → IVec → ℕ
place b x = place_at (offset K b x) (offset J b x) (offset I b x) (span J b) (64 * row_words b)

-- the cell is tagged
abbrev pub tagged : Field → IVec → Bool
tagged f x = holds f.bx x && is_set f.words (place f.bx x)

-- each row has its words, and zeros behind its end
pub record IsField (f : Field) : Type 0 where
  pub whole : IsBox f.bx
  pub rows : length f.words ≡ words_of f.bx
  pub few : length f.words < 2 ^ 57
  pub zeros : (p : ℕ) → span I f.bx ≤ p % (64 * row_words f.bx) → is_set f.words p ≡ false

-- the cell is tagged in some field
abbrev pub tagged_in : List Field → IVec → Bool
tagged_in fields x = list_any (λ f. tagged f x) fields

-- fields on these boxes, in their order, that have these tags
pub record AreTags (boxes : List Corners) (tags : IVec → Bool) (fields : List Field) : Type 0 where
  pub same_boxes : map (λ f. f.bx) fields ≡ boxes
  pub cells : (f : Field) (x : IVec) → Member f fields → tagged f x ≡ (holds f.bx x && tags x)

-- no cell lies in the boxes of two fields
abbrev pub AreApart : List Field → Type 0
AreApart fields = (x : IVec) → count_by (λ f. holds f.bx x) fields ≤ 1

-- a row: a box of one plane on the axes k and j
abbrev pub IsRow : Corners → Type 0
IsRow b = (b.hi.k ≡ b.lo.k) × (b.hi.j ≡ b.lo.j)

-- What a decision can be, and what its boxes keep.
use Rattle.std.specs.Prelude.{◌≡◌, ℕ, ◌+◌, ◌<◌, Bool, true}
use Rattle.samr_box.specs.declared.vector.Axis.TheVariants.{I, J, K}
use Rattle.samr_box.specs.declared.vector.IVec.{IVec}
use Rattle.samr_box.specs.Corners.{Corners, IsBox, Holds, holds, span}
use Rattle.samr_bits.specs.Bits.{one}
use Rattle.samr_sign.specs.declared.rule.CutRule.{CutRule}
use Rattle.samr_sign.specs.declared.decision.Decision.{Decision}
use Rattle.samr_sign.specs.declared.decision.Decision.TheVariants.{Drop, Accept, Split}
use Rattle.samr_sign.specs.Counts.{Sign, IsSign, sign, total}
use Rattle.samr_sign.specs.Decide.{shrunk, decide_of}

-- how often a box can be cut at most
abbrev pub depth : Corners → ℕ
depth b = span I b + span J b + span K b

-- two boxes that have together each cell of a box once, and no other, and can be cut less often
pub record AreParts (b p q : Corners) : Type 0 where
  pub first : IsBox p
  pub second : IsBox q
  pub cells : (x : IVec) → one (holds p x) + one (holds q x) ≡ one (holds b x)
  pub first_less : depth p < depth b
  pub second_less : depth q < depth b

-- a box without a tag is dropped, and no other; what is accepted, or cut in two parts, is the shrunk box
abbrev pub IsFate : Sign → Decision → Type 0
IsFate s Drop = total s ≡ 0
IsFate s (Accept b) = (0 < total s) × (b ≡ shrunk s)
IsFate s (Split p q) = (0 < total s) × AreParts (shrunk s) p q

abbrev pub EachDecisionIsAFate : Type 0
EachDecisionIsAFate = (s : Sign) (rule : CutRule) → IsSign s → IsFate s (decide_of s rule)

-- the shrunk box is a part of the box, and has all its tags
abbrev pub ShrinkingKeepsTags : Type 0
ShrinkingKeepsTags = (t : IVec → Bool) (b : Corners) (x : IVec) → Holds b x → t x ≡ true → Holds (shrunk (sign t b)) x

abbrev pub ShrinkingStaysInside : Type 0
ShrinkingStaysInside = (s : Sign) (x : IVec) → IsSign s → Holds (shrunk s) x → Holds s.bx x
